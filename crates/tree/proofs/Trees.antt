-- Laws of a tree's entries: how many there are, how many frames wait there, and where the entries of a tree end in a longer list.
use mathlib.Core.Path.{◌≡◌, refl, ap, ◌∙◌}
use mathlib.Core.Logic.{◌≢◌}
use mathlib.Core.List.{List, [], ◌∷◌, ◌++◌, append_assoc, map-append, tail}
use Prim.Native.Nat.{ℕ, zero, suc, ◌+◌, ◌-◌, ◌*◌, ◌≤◌, ◌<◌}
use native.Mathlib.Nat.{add-zero}
use native.Mathlib.Numerals.{sub-one}
use native.Mathlib.Omega.{arith}
use lib.ListN.{length, take, drop, get_or, length-append, get_or-map}
use lib.Seq.{drop-cons, take-suc}
use Rattle.machine.specs.declared.Frame.{Frame}
use Rattle.machine.specs.Config as machine
use Rattle.machine.specs.Config.{running, returning, failed, join}
use Rattle.machine.specs.Machine.{size, frame_count, thread_count}
use Rattle.script.specs.Lists.{sum_below}
use Rattle.machine.proofs.Positions.{size_some}
use Rattle.block.specs.Block.{preorder}
use Rattle.representation.specs.Changed.{frame_start}
use Rattle.tree.specs.declared.Entry.{Entry}
use Rattle.tree.specs.Entries.{root_entry, tree_entries, beneath_cell, frame_sum, blank}

pub entries_join : (fs : List Frame) (a e : ℕ) (l r : machine.Tree) → tree_entries (join fs a e l r) ≡ root_entry (join fs a e l r) ∷ (tree_entries l ++ tree_entries r)
unfolding preorder
entries_join fs a e l r = ap (λ (x : List Entry). root_entry (join fs a e l r) ∷ x) (map-append root_entry (preorder l) (preorder r))

-- the root's entry comes first, and a thread has no other
pub entries_first : (t : machine.Tree) → tree_entries t ≡ root_entry t ∷ tail (tree_entries t)
unfolding preorder
entries_first (running a e fs) = refl
entries_first (returning v fs) = refl
entries_first failed = refl
entries_first (join fs a e l r) = refl

pub entries_thread : (t : machine.Tree) → size t ≡ 1 → tree_entries t ≡ root_entry t ∷ []
unfolding preorder
entries_thread (running a e fs) h = refl
entries_thread (returning v fs) h = refl
entries_thread failed h = refl
entries_thread (join fs a e l r) h = absurd (omega (arith, size_some l))

pub entries_length : (t : machine.Tree) → length (tree_entries t) ≡ size t
unfolding preorder
entries_length (running a e fs) = refl
entries_length (returning v fs) = refl
entries_length failed = refl
entries_length (join fs a e l r) = ap length (entries_join fs a e l r) ∙ omega (arith, length-append (tree_entries l) (tree_entries r), entries_length l, entries_length r)

-- n threads take 2 * n - 1 positions
pub size_threads : (t : machine.Tree) → suc (size t) ≡ 2 * thread_count t
size_threads (running a e fs) = refl
size_threads (returning v fs) = refl
size_threads failed = refl
size_threads (join fs a e l r) = omega (arith, size_threads l, size_threads r)

pub sum_append : (a b : List Entry) → frame_sum (a ++ b) ≡ frame_sum a + frame_sum b
sum_append [] b = omega arith
sum_append (x ∷ a) b = omega (arith, sum_append a b)

pub sum_entries : (t : machine.Tree) → frame_sum (tree_entries t) ≡ frame_count t
unfolding preorder
sum_entries (running a e fs) = omega arith
sum_entries (returning v fs) = omega arith
sum_entries failed = refl
sum_entries (join fs a e l r) = ap frame_sum (entries_join fs a e l r) ∙ omega (arith, sum_append (tree_entries l) (tree_entries r), sum_entries l, sum_entries r)

-- the frames of the entries before a position are those before which its own begin
pub sum_start : (t : machine.Tree) (i : ℕ) → i ≤ size t → frame_sum (take i (tree_entries t)) ≡ frame_start t i
unfolding sum_below
sum_start t zero h = refl
sum_start t (suc i) h =
    let l : i < length (tree_entries t) = omega (arith, entries_length t) in
    let e = ap (λ (x : Entry). x.frames) (get_or-map root_entry (preorder t) i failed) in
    rw (take-suc (tree_entries t) i blank l) (omega (arith, sum_append (take i (tree_entries t)) (get_or (tree_entries t) i blank ∷ []), sum_start t i (omega arith), e))

-- how many entries n trees take at the front of a list
unfoldable pub span : List Entry → ℕ → ℕ
span [] n = 0
span (x ∷ xs) zero = 0
span (x ∷ xs) (suc n) = suc (span xs (n + beneath_cell x.cell))

pub span_zero : (es : List Entry) → span es 0 ≡ 0
unfolding span
span_zero [] = refl
span_zero (x ∷ xs) = refl

pub span_le : (es : List Entry) (n : ℕ) → span es n ≤ length es
unfolding span
span_le [] n = omega arith
span_le (x ∷ xs) zero = omega arith
span_le (x ∷ xs) (suc n) = omega (arith, span_le xs (n + beneath_cell x.cell))

pub span_some : (es : List Entry) → 0 < length es → 0 < span es 1
unfolding span
span_some [] h = h
span_some (x ∷ xs) h = omega arith

-- one entry read
pub span_turn : (es : List Entry) (p n : ℕ) → p < length es → n ≢ 0 → span (drop p es) n ≡ suc (span (drop (suc p) es) (n - 1 + beneath_cell (get_or es p blank).cell))
unfolding span
span_turn es p zero h some = absurd (some refl)
span_turn es p (suc n) h some = rw (drop-cons es p blank h, sub-one (suc n))

-- n + 1 trees are the first and then n more
pub span_entries : (t : machine.Tree) (n : ℕ) (rest : List Entry) → span (tree_entries t ++ rest) (suc n) ≡ size t + span rest n
unfolding span preorder
span_entries (running a e fs) n rest = rw (add-zero n) (omega arith)
span_entries (returning v fs) n rest = rw (add-zero n) (omega arith)
span_entries failed n rest = rw (add-zero n) (omega arith)
span_entries (join fs a e l r) n rest =
    let two : n + 2 ≡ suc (suc n) = omega arith in
    rw (map-append root_entry (preorder l) (preorder r), append_assoc (tree_entries l) (tree_entries r) rest, two) (omega (arith, span_entries l (suc n) (tree_entries r ++ rest), span_entries r n rest))
