-- Laws of lists whose later part is moved: their lengths, and what the moves are for.
use mathlib.Core.Path.{◌≡◌, refl, sym, ◌∙◌}
use mathlib.Core.List.{List, [], ◌∷◌, ◌++◌, append_assoc}
use Prim.Native.Nat.{ℕ, ◌+◌, ◌-◌, ◌<◌, ◌≤◌}
use native.Mathlib.Omega.{arith}
use lib.ListN.{length, get_or, set, take, drop, length-append, length-drop}
use lib.Seq.{length-take-le, take-append-le, drop-append-le, drop-drop, set_at, take_at}
use Rattle.areas.specs.Shifts.{raised, lowered}

module _ {A : Type 0} where
  -- the first element by itself
  first : (d : A) (l : List A) → 0 < length l → take 1 l ≡ get_or l 0 d ∷ []
  first d [] h = absurd (omega arith)
  first d (x ∷ l) h = refl

  -- as long as before: a part moved up, and a part moved down
  pub up_length : (k : ℕ) (l : List A) → k ≤ length l → length (take k l ++ take (length l - k) l) ≡ length l
  up_length k l h =
      length-append (take k l) (take (length l - k) l) ∙ omega (arith, length-take-le k l h, length-take-le (length l - k) l (omega arith))

  pub down_length : (k : ℕ) (l : List A) → k ≤ length l → length (drop k l ++ drop (length l - k) l) ≡ length l
  down_length k l h = length-append (drop k l) (drop (length l - k) l) ∙ omega (arith, length-drop k l, length-drop (length l - k) l)

  pub whole_length : (at : ℕ) (l m : List A) → at ≤ length l → length m ≡ length (drop at l) → length (take at l ++ m) ≡ length l
  whole_length at l m h e = length-append (take at l) m ∙ omega (arith, e, length-take-le at l h, length-drop at l)

  pub raised_length : (at : ℕ) (l : List A) → at < length l → length (raised at l) ≡ length l
  raised_length at l h = whole_length at l _ (omega arith) (up_length 1 (drop at l) (omega (arith, length-drop at l)))

  pub lowered_length : (at k : ℕ) (l : List A) → at + k ≤ length l → length (lowered at k l) ≡ length l
  lowered_length at k l h = whole_length at l _ (omega arith) (down_length k (drop at l) (omega (arith, length-drop at l)))

  -- an element put in: one more at the end, the later ones moved up, and the element written
  pub inserted : (l : List A) (x : A) (at : ℕ) → at ≤ length l → set (raised at (l ++ x ∷ [])) at x ≡ take at l ++ x ∷ drop at l
  inserted l x at h =
      let m : List A = drop at l ++ x ∷ [] in
      let long : length m ≡ length (drop at l) + 1 = length-append (drop at l) (x ∷ []) in
      let e : length m - 1 ≡ length (drop at l) = omega arith in
      let later : take (length m - 1) m ≡ drop at l = take_at (drop at l) (x ∷ []) (length m - 1) (sym e) in
      rw (take-append-le at l (x ∷ []) h, drop-append-le at l (x ∷ []) h, later, first x m (omega arith))
      (set_at (take at l) (get_or m 0 x) (drop at l) x at (length-take-le at l h))

  -- elements taken out: the later ones moved down, and the end cut off
  pub removed : (l : List A) (at k : ℕ) → at + k ≤ length l → take (length l - k) (lowered at k l) ≡ take at l ++ drop (at + k) l
  removed l at k h =
      let rest : List A = drop (length (drop at l) - k) (drop at l) in
      let front : List A = take at l ++ drop (at + k) l in
      let long : length front ≡ length l - k =
      length-append (take at l) (drop (at + k) l) ∙ omega (arith, length-take-le at l (omega arith), length-drop (at + k) l)
      in
      rw (drop-drop k at l, ← append_assoc (take at l) (drop (at + k) l) rest) (take_at front rest (length l - k) long)
