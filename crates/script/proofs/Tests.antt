-- Tests that say whether a statement holds, put together.
use mathlib.Core.Path.{◌≡◌, refl, sym, ap, ◌∙◌}
use mathlib.Core.Bool.{Bool, true, false, not, ◌&&◌, ◌||◌, and_assoc}
use mathlib.Core.List.Memᴰ
use mathlib.Core.List.{List, [], ◌∷◌, ◌++◌}
use mathlib.Core.Logic.{◌⊎◌, ⊎_elim, inl, inr}
use Prim.Native.Nat.{ℕ, ◌<◌, ◌≤◌}
use native.Mathlib.Omega.{arith}
use lib.Dec.{eqb, leb, ltb}
use borrow.Author.Tests.{eqb-true, eqb-false, leb-true, leb-false, ltb-true, ltb-false, not-true}
use Rattle.script.specs.Lists.{◌∈◌}
use Rattle.script.specs.Asking.{Decides, holds, fails}
use Rattle.script.specs.Questions.{all_of}

pub true_false : true ≡ false → ⊥
true_false e = let z : ◌≡◌ {A = ℕ} 0 1 = cc in omega arith

-- tests one after the other: `if !r { return false; }`
pub and_no : (a b r : Bool) → r ≡ a → not r ≡ true → false ≡ a && b
and_no a b r p q = let e : a ≡ false = sym p ∙ not-true r q in rw e

-- a test decides a statement if each answer settles it
pub decides : {P : Type 0} (b : Bool) → (b ≡ true → P) → (b ≡ false → P → ⊥) → Decides P b
decides true f g = holds (f refl)
decides false f g = fails (g refl)

-- what each answer says, and what it is where the statement is known
pub says_yes : {P : Type 0} {b : Bool} → Decides P b → b ≡ true → P
says_yes (holds p) e = p
says_yes (fails n) e = absurd (true_false (sym e))

pub yes_said : {P : Type 0} {b : Bool} → Decides P b → P → b ≡ true
yes_said (holds p) q = refl
yes_said (fails n) q = absurd (n q)

pub no_said : {P : Type 0} {b : Bool} → Decides P b → (P → ⊥) → b ≡ false
no_said (holds p) n = absurd (n p)
no_said (fails m) n = refl

-- the same statement in other words
pub decides_as : {P Q : Type 0} {b : Bool} → (P → Q) → (Q → P) → Decides P b → Decides Q b
decides_as f g (holds p) = holds (f p)
decides_as f g (fails n) = fails (λ q. n (g q))

pub decides_and : {P Q : Type 0} {a b : Bool} → Decides P a → Decides Q b → Decides (P × Q) (a && b)
decides_and (holds p) (holds q) = holds (p, q)
decides_and (holds p) (fails m) = fails (λ h. m h.1)
decides_and (fails n) d = fails (λ h. n h.0)

pub decides_or : {P Q : Type 0} {a b : Bool} → Decides P a → Decides Q b → Decides (P ⊎ Q) (a || b)
decides_or (holds p) d = holds (inl p)
decides_or (fails n) (holds q) = holds (inr q)
decides_or (fails n) (fails m) = fails (⊎_elim n m)

pub decides_not : {P : Type 0} {a : Bool} → Decides P a → Decides (P → ⊥) (not a)
decides_not (holds p) = fails (λ h. h p)
decides_not (fails n) = holds n

pub decides_eq : (a b : ℕ) → Decides (a ≡ b) (eqb a b)
decides_eq a b = decides (eqb a b) (eqb-true a b) (eqb-false a b)

pub decides_le : (a b : ℕ) → Decides (a ≤ b) (leb a b)
decides_le a b = decides (leb a b) (leb-true a b) (λ e p. omega (arith, leb-false a b e))

pub decides_lt : (a b : ℕ) → Decides (a < b) (ltb a b)
decides_lt a b = decides (ltb a b) (ltb-true a b) (λ e p. omega (arith, ltb-false a b e))

pub decides_all : {A : Type 0} (P : A → Type 0) (test : A → Bool) (l : List A) → ((x : A) → Decides (P x) (test x)) → Decides ((x : A) → x ∈ l → P x) (all_of test l)
unfolding all_of
decides_all P test [] d = holds (λ x m. absurd (Memᴰ.not-nil m))
decides_all P test (y ∷ l) d = decides_as both each (decides_and (d y) (decides_all P test l d))
  where
    both : P y × ((x : _) → x ∈ l → P x) → (x : _) → x ∈ y ∷ l → P x
    both h x m = ⊎_elim (λ (e : x ≡ y). rw e h.0) (λ k. h.1 x k) (Memᴰ.cases_cons m)

    each : ((x : _) → x ∈ y ∷ l → P x) → P y × ((x : _) → x ∈ l → P x)
    each h = (h y (Memᴰ.head refl), λ x k. h x (Memᴰ.tail k))

-- a test of two lists, one after the other
pub all_append : {A : Type 0} (test : A → Bool) (l m : List A) → all_of test (l ++ m) ≡ all_of test l && all_of test m
unfolding all_of
all_append test [] m = refl
all_append test (x ∷ l) m = ap (λ (b : Bool). test x && b) (all_append test l m) ∙ sym (and_assoc (test x) (all_of test l) (all_of test m))
