-- Masks: what the bit operations do to the lists that masks tell of.
use Prim.Native.Nat.{ℕ, ◌+◌, ◌*◌, ◌-◌, ◌%◌, ◌^◌, ◌<◌, ◌≤◌, min, max}
use mathlib.Core.Path.{◌≡◌, refl, sym, ap, ◌∙◌}
use mathlib.Core.Bool.{Bool, true, false, ◌||◌}
use mathlib.Core.List.{List, [], ◌∷◌, ◌++◌}
use mathlib.Core.Logic.{⊎_elim}
use native.Mathlib.Nat.{lt_of_le_of_lt}
use native.Mathlib.Omega.{arith}
use lib.Dec.{eqb}
use lib.Pow.{shl_exact}
use lib.Bits.{bit_and, bit_or, bit_xor, differ, and_le_l}
use borrow.Author.Tests.{eq-eqb, ne_eqb, eqb-true, eqb-false}
use Rattle.slices.specs.Bits.{flag_of, bit_of}
use Rattle.slices.proofs.Bits.{bit_and_lem, bit_or_lem, bit_xor_lem, bit_zero, bit_same, bit_other, set_bit, flag_or, flag_off, flag_kept, both_flags, max_one, off_one, bit_small, min_one, flag_one}
use Rattle.script.proofs.Tests.{true_false}
use Rattle.typing.specs.Typing.{without, is_in}
use Rattle.names.specs.Ranks.{RankOf, Ranked}
use Rattle.masks.specs.Free.{SPAN, MaskOf, RankMask, Mark, met}

-- Which variables are in a list made of others.
pub in_append : (y : ℕ) (l m : List ℕ) → is_in y (l ++ m) ≡ (is_in y l || is_in y m)
unfolding is_in
in_append y [] m = refl
in_append y (x ∷ l) m = rw (in_append y l m) (or_assoc (eqb x y) (is_in y l) (is_in y m))
  where
    or_assoc : (a b c : Bool) → (a || (b || c)) ≡ ((a || b) || c)
    or_assoc true b c = refl
    or_assoc false b c = refl

in_one : (y x : ℕ) → is_in y (x ∷ []) ≡ eqb x y
unfolding is_in
in_one y x = go (eqb x y)
  where
    go : (b : Bool) → (b || false) ≡ b
    go true = refl
    go false = refl

without_own : (x : ℕ) (l : List ℕ) → is_in x (without x l) ≡ false
unfolding is_in without
without_own x [] = refl
without_own x (z ∷ l) = go (eqb z x) refl (without_own x l)
  where
    go : (b : Bool) → eqb z x ≡ b → is_in x (without x l) ≡ false → is_in x (without x (z ∷ l)) ≡ false
    go true e ih = rw e ih
    go false e ih = rw (e, e) ih

without_other : (x y : ℕ) (l : List ℕ) → eqb x y ≡ false → is_in y (without x l) ≡ is_in y l
unfolding is_in without
without_other x y [] n = refl
without_other x y (z ∷ l) n = go (eqb z x) refl (without_other x y l n)
  where
    go : (b : Bool) → eqb z x ≡ b → is_in y (without x l) ≡ is_in y l → is_in y (without x (z ∷ l)) ≡ is_in y (z ∷ l)
    go true e ih = let q = eqb-true z x e in rw (e, q, n) ih
    go false e ih = rw (e, ih)

pub in_without : (x y : ℕ) (l : List ℕ) → is_in y (without x l) ≡ true → is_in y l ≡ true
in_without x y l h = go (eqb x y) refl
  where
    go : (b : Bool) → eqb x y ≡ b → is_in y l ≡ true
    go true e = absurd (true_false (sym (rw (eqb-true x y e, without_own y l) at h)))
    go false e = sym (without_other x y l e) ∙ h

-- The mask of a rank, outside of the span and in it.
module _ (start : ℕ) where
  pub rank_outside : (rank : ℕ) → ((k : ℕ) → k < SPAN → rank ≡ start + k → ⊥) → RankMask start rank 0
  rank_outside rank n k h = rw (ne_eqb rank (start + k) (n k h)) (bit_zero k)

  pub rank_inside : (rank : ℕ) → start ≤ rank → rank - start < SPAN → RankMask start rank ((1 * 2 ^ (rank - start)) % 2 ^ SPAN)
  rank_inside rank h w k b = rw (shl_exact {a = 1} 1 (rank - start) SPAN (omega arith) (omega arith)) (go (eqb rank (start + k)) refl)
    where
      go : (b : Bool) → eqb rank (start + k) ≡ b → bit_of (1 * 2 ^ (rank - start)) k ≡ flag_of (eqb rank (start + k))
      go true e = let q : rank - start ≡ k = omega (arith, eqb-true rank (start + k) e) in rw (e, q) (bit_same k)
      go false e = rw e (bit_other (rank - start) k (λ q. eqb-false rank (start + k) e (omega arith)))

module _ (s facts : List ℕ) (start : ℕ) where
  abbrev Mask : ℕ → List ℕ → Type 0
  Mask = MaskOf s facts start

  pub mask_none : Mask 0 []
  unfolding is_in
  mask_none = record { tells = λ x k h r. bit_zero k; only = λ k h e. absurd (omega (arith, bit_zero k)) }

  pub mask_or : (a b : ℕ) (l m : List ℕ) → Mask a l → Mask b m → Mask (bit_or a b) (l ++ m)
  mask_or a b l m p q =
      record {
        tells = λ x k h r. bit_or_lem a b k ∙ rw (p.tells x k h r, q.tells x k h r, in_append x l m) (flag_or (is_in x l) (is_in x m));
        only = λ k h e. ⊎_elim (p.only k h) (q.only k h) (max_one (bit_of a k) (bit_of b k) (sym (bit_or_lem a b k) ∙ e));
      }

  pub mask_without : (a o x : ℕ) (l : List ℕ) → Mask a l → Mask o (x ∷ []) → Mask (bit_xor (bit_or a o) o) (without x l)
  mask_without a o x l p q =
      record {
        tells = λ y k h r. bit_xor_lem (bit_or a o) o k ∙ rw (bit_or_lem a o k, p.tells y k h r, q.tells y k h r, in_one y x) (go y (eqb x y) refl);
        only = λ k h e. ⊎_elim (p.only k h) (q.only k h) (max_one (bit_of a k) (bit_of o k) (off_one (bit_of a k) (bit_of o k) (bit_small a k) (bit_small o k) (sym (bit_xor_lem (bit_or a o) o k ∙ rw (bit_or_lem a o k)) ∙ e)));
      }
    where
      go : (y : ℕ) (b : Bool) → eqb x y ≡ b → differ (max (flag_of (is_in y l)) (flag_of (eqb x y))) (flag_of (eqb x y)) ≡ flag_of (is_in y (without x l))
      go y true e = flag_off (is_in y l) (eqb x y) e ∙ rw (eqb-true x y e, without_own y l)
      go y false e = flag_kept (is_in y l) (eqb x y) e ∙ ap flag_of (sym (without_other x y l e))

  -- The mask of a variable is that of its rank.
  pub mask_rank : (count x rank m : ℕ) → Ranked s facts count → RankOf s facts x rank → RankMask start rank m → Mask m (x ∷ [])
  mask_rank count x rank m ranked r bits =
      record {
        tells = λ y k h t. bits k h ∙ rw (in_one y x) (go y k t (eqb x y) refl);
        only = λ k h e. (x, rw (eqb-true rank (start + k) (flag_one (eqb rank (start + k)) (sym (bits k h) ∙ e))) at r);
      }
    where
      go : (y k : ℕ) → RankOf s facts y (start + k) → (b : Bool) → eqb x y ≡ b → flag_of (eqb rank (start + k)) ≡ flag_of (eqb x y)
      go y k t true e = let q = ranked.same (rw (eqb-true x y e) at r) t in rw (e, eq-eqb rank (start + k) q)
      go y k t false e = rw (e, ne_eqb rank (start + k) (λ q. eqb-false x y e (ranked.apart (rw q at r) t)))

  module _ (a b : ℕ) (l m : List ℕ) (p : Mask a l) (q : Mask b m) where
    both_bits : (x k : ℕ) → k < SPAN → RankOf s facts x (start + k) → bit_of (bit_and a b) k ≡ min (flag_of (is_in x l)) (flag_of (is_in x m))
    both_bits x k h r = bit_and_lem a b k ∙ rw (p.tells x k h r, q.tells x k h r)

    -- Masks with no bit in common tell of no variable in both lists.
    pub masks_apart : bit_and a b ≡ 0 → (x k : ℕ) → k < SPAN → RankOf s facts x (start + k) → is_in x l ≡ true → is_in x m ≡ true → ⊥
    masks_apart z x k h r y y' =
        let u : bit_of 0 k ≡ min (flag_of (is_in x l)) (flag_of (is_in x m)) = rw z at (both_bits x k h r) in
        let v : bit_of 0 k ≡ 1 = rw (y, y') at u in
        omega (arith, bit_zero k)

    -- Masks with a bit in common tell of a variable in both lists.
    pub masks_meet : a < 2 ^ SPAN → (bit_and a b ≡ 0 → ⊥) → (bound : ℕ) → Mark s facts bound l m 1
    masks_meet f n bound =
        let c = set_bit SPAN (bit_and a b) (lt_of_le_of_lt (and_le_l a b) f) n in
        let own : bit_of a c.place ≡ 1 = min_one (bit_of a c.place) (bit_of b c.place) (bit_small a c.place) (sym (bit_and_lem a b c.place) ∙ c.set) in
        let x = p.only c.place c.within own in
        let e = both_flags (is_in x.0 l) (is_in x.0 m) (sym (both_bits x.0 c.place c.within x.1) ∙ c.set) in
        met x.0 e.0 e.1
