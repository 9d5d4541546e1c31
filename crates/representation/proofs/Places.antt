-- Where a position's frames and a numbered binding stand: the lists of a block against those of a configuration.
use mathlib.Core.Path.{◌≡◌, ap, ◌∙◌}
use mathlib.Core.List.{List, [], ◌∷◌, ◌++◌, flat_map, reverse, reverse-cons}
use Prim.Native.Nat.{ℕ, zero, suc, ◌+◌, ◌-◌, ◌<◌}
use native.Mathlib.Omega.{arith}
use native.Mathlib.Decide.{dec_lt}
use lib.ListN.{length, get_or, length-reverse, get_or-append}
use lib.Seq.{get_or-append-add}
use Rattle.script.specs.Lists.{sum_below}
use Rattle.machine.specs.declared.Frame.{Frame}
use Rattle.machine.specs.Config.{Tree, failed}
use Rattle.block.specs.Block.{preorder, waiting, frames_of}
use Rattle.representation.specs.Changed.{frame_start}
use Rattle.representation.proofs.Growing.{sum_front}

-- element i of a list turned round: binding number i of bindings that stand newest first
pub turned : {A : Type 0} (xs : List A) (i : ℕ) (d : A) → i < length xs → get_or (reverse xs) i d ≡ get_or xs (length xs - suc i) d
turned [] i d h = absurd (omega arith)
turned (x ∷ xs) i d h =
    rw (reverse-cons x xs)
    (elim (dec_lt i (length xs)) [
      | yes l ↦
          let e : suc (length xs) - suc i ≡ suc (length xs - suc i) = omega arith in
          get_or-append (reverse xs) (x ∷ []) d i (rw (length-reverse xs) l) ∙ rw e (turned xs i d l)
      | no l ↦
          let e : i ≡ length (reverse xs) + 0 = omega (arith, length-reverse xs) in
          let z : suc (length xs) - suc i ≡ 0 = omega arith in
          rw z (ap (λ (n : ℕ). get_or (reverse xs ++ x ∷ []) n d) e ∙ get_or-append-add (reverse xs) (x ∷ []) 0 d)
    ])

part :
    (ss : List Tree) (i k : ℕ) (d : Frame)
    → i < length ss
    → k < length (waiting (get_or ss i failed))
    → get_or (flat_map (λ s. reverse (waiting s)) ss) (sum_below (λ n. length (waiting (get_or ss n failed))) i + k) d ≡ get_or (reverse (waiting (get_or ss i failed))) k d
unfolding flat_map sum_below
part [] i k d h l = absurd (omega arith)
part (s ∷ ss) zero k d h l =
    let e : 0 + k ≡ k = omega arith in
    rw e (get_or-append (reverse (waiting s)) (flat_map (λ s. reverse (waiting s)) ss) d k (rw (length-reverse (waiting s)) l))
part (s ∷ ss) (suc i) k d h l =
    let later : ℕ = sum_below (λ n. length (waiting (get_or ss n failed))) i in
    let e : sum_below (λ n. length (waiting (get_or (s ∷ ss) n failed))) (suc i) + k ≡ length (reverse (waiting s)) + (later + k) =
    omega (arith, sum_front (λ n. length (waiting (get_or (s ∷ ss) n failed))) i, length-reverse (waiting s))
    in
    rw e (get_or-append-add (reverse (waiting s)) (flat_map (λ s. reverse (waiting s)) ss) (later + k) d ∙ part ss i k d (omega arith) l)

-- frame k of position i, counted from the outermost
pub frame_at :
    (t : Tree) (i k : ℕ) (d : Frame)
    → i < length (preorder t)
    → k < length (waiting (get_or (preorder t) i failed))
    → get_or (frames_of t) (frame_start t i + k) d ≡ get_or (reverse (waiting (get_or (preorder t) i failed))) k d
unfolding frames_of
frame_at t i k d h l = part (preorder t) i k d h l
