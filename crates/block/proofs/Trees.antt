-- Laws of trees: how many positions there are, and a tree put together again from the words of its positions and its frames.
use mathlib.Core.Path.{◌≡◌, refl, sym, ap, ◌∙◌}
use mathlib.Core.List.{List, [], ◌∷◌, ◌++◌, append_assoc, append-nil, map, map-append, flat_map, reverse, reverse-append, reverse-reverse}
use mathlib.Core.List.Memᴰ
use Prim.Native.Nat.{ℕ, suc, ◌+◌, ◌*◌}
use native.Mathlib.Omega.{arith}
use lib.ListN.{length, get_or, length-append}
use lib.Seq.{take-append_seam, drop-append_seam}
use Rattle.script.specs.Lists.{◌∈◌}
use Rattle.machine.specs.declared.Frame.{Frame}
use Rattle.machine.specs.Config.{Tree, running, returning, failed, join}
use Rattle.machine.specs.Machine.{thread_count}
use Rattle.block.specs.Rows.{word_of}
use Rattle.block.specs.Layout.{WAITING, RETURNING}
use Rattle.block.specs.Values.{Storable}
use Rattle.block.specs.Block.{preorder, waiting, returned, position_words, frames_of}
use Rattle.block.specs.Decode.{with_position, Forest, forest}
use Rattle.block.proofs.Rows.{flat_map_append}
use Rattle.block.proofs.Values.{value_back, value_after}

-- n threads take 2 * n - 1 positions
pub positions_threads : (t : Tree) → suc (length (preorder t)) ≡ 2 * thread_count t
unfolding preorder
positions_threads (running p e fs) = refl
positions_threads (returning v fs) = refl
positions_threads failed = refl
positions_threads (join fs p e l r) = omega (arith, length-append (preorder l) (preorder r), positions_threads l, positions_threads r)

-- the frames of a tree, last one first
backwards : Tree → List Frame
backwards t = reverse (frames_of t)

pub frames_join : (fs : List Frame) (p e : ℕ) (l r : Tree) → frames_of (join fs p e l r) ≡ reverse fs ++ (frames_of l ++ frames_of r)
unfolding frames_of preorder flat_map
frames_join fs p e l r = ap (λ (k : List Frame). reverse fs ++ k) (flat_map_append (λ s. reverse (waiting s)) (preorder l) (preorder r))

backwards_join : (fs : List Frame) (p e : ℕ) (l r : Tree) → backwards (join fs p e l r) ≡ backwards r ++ (backwards l ++ fs)
unfolding backwards
backwards_join fs p e l r = rw (frames_join fs p e l r) (simp (reverse-append, reverse-reverse, append_assoc))

-- trees with frames left
abbrev left : List Tree → List Frame → Forest
left ts fs = record { trees = ts; frames = fs }

-- a position takes its own frames from the front
forest_cons :
    (r : List ℕ) (rs : List (List ℕ)) (ts : List Tree) (fs gs rest : List Frame)
    → word_of r WAITING ≡ length gs
    → forest rs fs ≡ left ts (gs ++ rest)
    → forest (r ∷ rs) fs ≡ left (with_position r gs ts) rest
unfolding forest
forest_cons r rs ts fs gs rest n e = rw (e, n, take-append_seam gs rest, drop-append_seam gs rest)

-- so the trees of some positions, with those of a tree before them
forest_tree :
    (t : Tree) (rs : List (List ℕ)) (ts : List Tree) (fs rest : List Frame)
    → ((u : Tree) → u ∈ preorder t → Storable (returned u))
    → forest rs fs ≡ left ts (backwards t ++ rest)
    → forest (map position_words (preorder t) ++ rs) fs ≡ left (t ∷ ts) rest
unfolding preorder backwards frames_of flat_map
forest_tree (running p e gs) rs ts fs rest s h = forest_cons (position_words (running p e gs)) rs ts fs gs rest refl (rw (append-nil, reverse-reverse) at h)
forest_tree (returning v gs) rs ts fs rest s h =
    let row = RETURNING ∷ 0 ∷ 0 ∷ [] in
    let n = value_after row v (length gs ∷ []) 0 in
    forest_cons (position_words (returning v gs)) rs ts fs gs rest n (rw (append-nil, reverse-reverse) at h)
    ∙ rw (value_back row v (length gs ∷ []) (s (returning v gs) (Memᴰ.head refl)))
forest_tree failed rs ts fs rest s h = forest_cons (position_words failed) rs ts fs [] rest refl h
forest_tree (join gs p e l r) rs ts fs rest s h =
    let k : forest rs fs ≡ left ts (backwards r ++ (backwards l ++ (gs ++ rest))) = simp (backwards_join, append_assoc) at h in
    let right = forest_tree r rs ts fs (backwards l ++ (gs ++ rest)) (λ u m. s u (Memᴰ.tail (Memᴰ.append_right (preorder l) m))) k in
    let both =
    forest_tree l (map position_words (preorder r) ++ rs) (r ∷ ts) fs (gs ++ rest) (λ u m. s u (Memᴰ.tail (Memᴰ.append_left (preorder r) m))) right
    in
    rw (map-append position_words (preorder l) (preorder r), append_assoc)
    (forest_cons (position_words (join gs p e l r)) (map position_words (preorder l) ++ (map position_words (preorder r) ++ rs)) (l ∷ r ∷ ts) fs gs rest refl both)

-- a tree is put together again
pub tree_back :
    (t : Tree)
    → ((u : Tree) → u ∈ preorder t → Storable (returned u))
    → get_or (forest (map position_words (preorder t)) (reverse (frames_of t))).trees 0 failed ≡ t
unfolding backwards forest
tree_back t s =
    let e = forest_tree t [] [] (backwards t) [] s (ap (left []) (sym (append-nil (backwards t)))) in
    ap (λ (g : Forest). get_or g.trees 0 failed) (rw (append-nil (map position_words (preorder t))) at e)
