-- Laws of lists: an array that is written over from the front, elements moved down or up in place, and a splice.
use mathlib.Core.Path.{◌≡◌, ap, ◌∙◌}
use mathlib.Core.List.{List, [], ◌∷◌, ◌++◌, append_assoc}
use Prim.Native.Nat.{ℕ, zero, suc, ◌+◌, ◌-◌, ◌≤◌, ◌<◌}
use native.Mathlib.Nat.{zero-add, suc-add}
use native.Mathlib.Numerals.{add-one}
use native.Mathlib.Omega.{arith}
use lib.ListN.{length, take, drop, get_or, set, length-set, length-append, length-take, length-drop}
use lib.Seq.{length-take-le, take-suc, drop-cons, append_snoc, set_at, take_at, slice, take-set-le, drop-set-lt, get_or-set_same, take-append-add, take-take}
use Rattle.std.specs.List.{copy_within}
use Rattle.representation.specs.Preorder.{splice}

module _ {ℓ} {A : Type ℓ} where
  -- a turn of a loop that writes l over a, from the front
  pub over_turn : (l a : List A) (z v : A) (m : ℕ) → m < length l → m < length a → v ≡ get_or l m z → set (take m l ++ drop m a) m v ≡ take (m + 1) l ++ drop (m + 1) a
  over_turn l a z v m hl ha e =
      let k : length (take m l) ≡ m = length-take-le m l (omega arith) in
      rw (drop-cons a m z ha, set_at (take m l) (get_or a m z) (drop (suc m) a) v m k, add-one, take-suc l m z hl, append_snoc, e)

  pub over_length : (l a : List A) (m : ℕ) → m ≤ length l → m ≤ length a → length (take m l ++ drop m a) ≡ length a
  over_length l a m hl ha = simp (length-append, length-take, length-drop) (omega arith)

  pub over_take : (l a : List A) (m : ℕ) → m ≤ length l → take m (take m l ++ drop m a) ≡ take m l
  over_take l a m hl = take_at (take m l) (drop m a) m (length-take-le m l hl)

  -- the elements after `old` from `at` on moved down, up to element m
  abbrev pub moved_down : List A → ℕ → ℕ → ℕ → List A
  moved_down l at old m = take m (take at l ++ drop (at + old) l) ++ drop m l

  -- the elements from m up to u moved two places up
  abbrev pub moved_up : List A → ℕ → ℕ → List A
  moved_up l m u = take (m + 2) l ++ (slice m u l ++ drop (u + 2) l)

  -- and two others put in their place
  pub up_put : (l : List A) (z x y : A) (m u : ℕ) → m + 2 ≤ length l → set (set (moved_up l m u) m x) (m + 1) y ≡ take m l ++ (x ∷ y ∷ (slice m u l ++ drop (u + 2) l))
  up_put l z x y m u h =
      let past = slice m u l ++ drop (u + 2) l in
      let t : m + 2 ≡ suc (suc m) = omega arith in
      let k : length (take m l) ≡ m = length-take-le m l (omega arith) in
      let n : length (take m l ++ x ∷ []) ≡ m + 1 = length-append (take m l) (x ∷ []) ∙ omega (arith, k) in
      let two : moved_up l m u ≡ take m l ++ get_or l m z ∷ get_or l (suc m) z ∷ past =
      rw (t, take-suc l (suc m) z (omega arith), take-suc l m z (omega arith), append_snoc (take m l ++ get_or l m z ∷ []) (get_or l (suc m) z) past) (append_snoc (take m l) (get_or l m z) (get_or l (suc m) z ∷ past))
      in
      rw (two, set_at (take m l) (get_or l m z) (get_or l (suc m) z ∷ past) x m k, ← append_snoc (take m l) x (get_or l (suc m) z ∷ past), set_at (take m l ++ x ∷ []) (get_or l (suc m) z) past y (m + 1) n)
      (append_snoc (take m l) x (y ∷ past))

  drop_take : (f j : ℕ) (l : List A) → drop f (take (f + j) l) ≡ take j (drop f l)
  drop_take zero j l = ap (λ (k : ℕ). take k l) (zero-add j)
  drop_take (suc f) zero [] = ap (λ (k : ℕ). drop (suc f) (take k [])) (suc-add f 0)
  drop_take (suc f) (suc j) [] = ap (λ (k : ℕ). drop (suc f) (take k [])) (suc-add f (suc j))
  drop_take (suc f) j (x ∷ l) = ap (λ (k : ℕ). drop (suc f) (take k (x ∷ l))) (suc-add f j) ∙ drop_take f j l

  -- an element exchanged before the splice, or as its first
  pub set_splice : (l : List A) (x : A) (i k : ℕ) (p : List A) → i < length l → i < k → take (i + 1) (set l i x) ++ (p ++ drop k (set l i x)) ≡ take i l ++ ((x ∷ p) ++ drop k l)
  set_splice l x i k p h hk =
      rw (drop-set-lt k l i x hk, add-one i, take-suc (set l i x) i x (omega (arith, length-set l i x)), take-set-le i l i x (omega arith), get_or-set_same l i x x h, append_snoc (take i l) x (p ++ drop k l))

module _ {A : Type 0} where
  -- what the library's copy within a list has put there is the elements moved down, or two places up
  pub down_within : (l : List A) (at old n : ℕ) → at + old ≤ n → n ≤ length l → copy_within l (at + old) n at ≡ moved_down l at old (n - old)
  down_within l at old n h k =
      let front : length (take at l) ≡ at = length-take-le at l (omega arith) in
      let e : n - old ≡ length (take at l) + (n - (at + old)) = omega (arith, front) in
      let f : at + (n - (at + old)) ≡ n - old = omega arith in
      rw (f, ap (λ (m : ℕ). take m (take at l ++ drop (at + old) l)) e, take-append-add (take at l) (drop (at + old) l) (n - (at + old)))

  pub up_within : (l : List A) (at n : ℕ) → at ≤ n → copy_within l at n (at + 2) ≡ moved_up l at n
  up_within l at n h =
      let e : at + (n - at) ≡ n = omega arith in
      let f : at + 2 + (n - at) ≡ n + 2 = omega arith in
      rw (f, ← drop_take at (n - at) l, e) (append_assoc (take (at + 2) l) (slice at n l) (drop (n + 2) l))

module _ {A : Type 0} (l : List A) (at old : ℕ) (new : List A) where
  -- the front of a splice of l is the splice of the front of l
  pub splice_take : (q k : ℕ) → at + old ≤ q → q ≤ length l → k ≡ q - old + length new → take k (splice l at old new) ≡ splice (take q l) at old new
  splice_take q k h hq e =
      let j = q - (at + old) in
      let n : length (take at l) ≡ at = length-take-le at l (omega arith) in
      let e₁ : k ≡ length (take at l) + (length new + j) = omega arith in
      let e₂ : q ≡ at + old + j = omega arith in
      let d : drop (at + old) (take q l) ≡ take j (drop (at + old) l) = ap (λ (i : ℕ). drop (at + old) (take i l)) e₂ ∙ drop_take (at + old) j l in
      rw (e₁, take-append-add (take at l) (new ++ drop (at + old) l) (length new + j), take-append-add new (drop (at + old) l) j, d, take-take at q l (omega arith))
