-- Marks of forks: what they say of two lists from span to span, and in the end.
use Prim.Native.Nat.{ℕ, ◌+◌, ◌-◌, ◌<◌}
use mathlib.Core.Path.{◌≡◌, refl, sym}
use mathlib.Core.Bool.{Bool, true, false, ◌||◌}
use mathlib.Core.List.{List, [], ◌∷◌}
use native.Mathlib.Omega.{arith}
use lib.Bits.{bit_and}
use lib.Dec.{eqb, ltb}
use borrow.Author.Tests.{eq-eqb, eqb-true, ltb-true, ltb-false}
use Rattle.script.proofs.Tests.{true_false}
use Rattle.typing.specs.Typing.{is_in, shares}
use Rattle.names.specs.Ranks.{RankOf}
use Rattle.slices.specs.Bits.{flag_of}
use Rattle.masks.specs.Free.{SPAN, MaskOf, Mark, met, apart}
use Rattle.masks.proofs.MaskLaws.{masks_apart}

or_right : (a : Bool) → (a || true) ≡ true
or_right true = refl
or_right false = refl

-- Lists that share a variable, and lists that share none.
shares_yes : (x : ℕ) (l m : List ℕ) → is_in x l ≡ true → is_in x m ≡ true → shares l m ≡ true
unfolding is_in shares
shares_yes x [] m p q = absurd (true_false (sym p))
shares_yes x (y ∷ l) m p q = go (eqb y x) refl p (λ r. shares_yes x l m r q)
  where
    go : (b : Bool) → eqb y x ≡ b → (b || is_in x l) ≡ true → (is_in x l ≡ true → shares l m ≡ true) → (is_in y m || shares l m) ≡ true
    go true e r ih = let z = eqb-true y x e in rw (z, q)
    go false e r ih = rw (ih r) (or_right (is_in y m))

shares_no : (l m : List ℕ) → ((x : ℕ) → is_in x l ≡ true → is_in x m ≡ true → ⊥) → shares l m ≡ false
unfolding is_in shares
shares_no [] m f = refl
shares_no (y ∷ l) m f = go (is_in y m) refl (shares_no l m (λ x p q. f x (rw p (or_right (eqb y x))) q))
  where
    go : (b : Bool) → is_in y m ≡ b → shares l m ≡ false → (b || shares l m) ≡ false
    go true e ih = absurd (f y (rw (eq-eqb y y refl)) e)
    go false e ih = ih

module _ (s facts l m : List ℕ) where
  -- No rank is below 0.
  pub mark_none : Mark s facts 0 l m 0
  mark_none = apart (λ x k r h p q. omega arith)

  -- A mark holds over a span of which the masks have no bit in common.
  pub mark_kept : (start t a b : ℕ) → MaskOf s facts start a l → MaskOf s facts start b m → bit_and a b ≡ 0 → Mark s facts start l m t → Mark s facts (start + SPAN) l m t
  mark_kept start t a b p q z (met x y y') = met x y y'
  mark_kept start t a b p q z (apart f) = apart (λ x k r h y y'. go x k r h y y' (ltb k start) refl)
    where
      go : (x k : ℕ) → RankOf s facts x k → k < start + SPAN → is_in x l ≡ true → is_in x m ≡ true → (b : Bool) → ltb k start ≡ b → ⊥
      go x k r h y y' true e = f x k r (ltb-true k start e) y y'
      go x k r h y y' false e =
          let d : k ≡ start + (k - start) = omega (arith, ltb-false k start e) in
          masks_apart s facts start a b l m p q z x (k - start) (omega arith) (rw d at r) y y'

  -- Past every rank a mark is the answer.
  pub mark_done : (bound t : ℕ) → ((x : ℕ) → is_in x l ≡ true → (k : ℕ) × ((k < bound) × RankOf s facts x k)) → Mark s facts bound l m t → t ≡ flag_of (shares l m)
  mark_done bound t all (met x p q) = rw (shares_yes x l m p q)
  mark_done bound t all (apart f) = rw (shares_no l m (λ x p q. let a = all x p in f x a.0 a.1.1 a.1.0 p q))
