-- Int: it is below only itself, and what is excepted for it.
use mathlib.Core.Path.{◌≡◌, refl, sym, ap, ◌∙◌}
use mathlib.Core.Bool.{Bool}
use mathlib.Core.Logic.{◌↔◌}
use mathlib.Core.Option.{none}
use Prim.Native.Nat.{ℕ}
use native.Mathlib.Omega.{arith}
use Rattle.script.specs.Syntax.{Point, Program, an_int, int_of, declaration_at}
use Rattle.script.specs.Asking.{Decides, holds, fails}
use Rattle.script.specs.Regular.{IsInterface, Regular}
use Rattle.script.proofs.Declarations.{an_interface_at, int_declared, declared_int}
use Rattle.script.proofs.Tests.{decides_as, decides_not, decides_eq}
use Rattle.typing.specs.Environments.{Use, of_field, of_method, of_lock}
use Rattle.typing.specs.Typing.{int_test, null_test, lock_no, use_no}
use Rattle.typing.specs.Published.{Sub, T-SUB-CLASS, T-SUB-INTERFACE-LEFT, T-SUB-INTERFACE-RIGHT, T-SUB-TRANS, T-SUB-EQ, NullFits, no_int, UseOk, any_field, any_method, lock_no_int}
use Rattle.typing.proofs.Types.{parent_types}

module _ (p : Program) where
  -- The test for Int says of a type whether it is declared so.
  pub decides_int : (t : ℕ) → Decides (declaration_at p t ≡ an_int) (int_test p t)
  decides_int t = decides_as (λ e. ap (declaration_at p) e ∙ int_declared p) (declared_int p t) (decides_eq t (int_of p))

  -- The test for null says of a type whether null fits it.
  pub null_fits_exactly : (t : ℕ) → Decides (NullFits p t) (null_test p t)
  null_fits_exactly t = decides_as no_int back (decides_not (decides_int t))
    where
      back : NullFits p t → declaration_at p t ≡ an_int → ⊥
      back (no_int h) = h

  -- A use gets no no exactly if the rules allow it.
  pub use_exactly : (n : Point) (u : Use) → (use_no p n u ≡ none) ↔ UseOk p n u
  use_exactly n (of_field c f) = (λ e. any_field, λ o. refl)
  use_exactly n (of_method t m) = (λ e. any_method, λ o. refl)
  use_exactly n (of_lock t) = (to (decides_int t), back (decides_int t))
    where
      to : {b : Bool} → Decides (declaration_at p t ≡ an_int) b → lock_no b ≡ none → UseOk p n (of_lock t)
      to (holds d) e = absurd (let z : ◌≡◌ {A = ℕ} 0 1 = cc in omega arith)
      to (fails h) e = lock_no_int h

      back : {b : Bool} → Decides (declaration_at p t ≡ an_int) b → UseOk p n (of_lock t) → lock_no b ≡ none
      back (holds d) (lock_no_int h) = absurd (h d)
      back (fails h) o = refl

module _ (p : Program) (ok : Regular p) where
  no_interface : {t : ℕ} {A : Type 0} → IsInterface p t → declaration_at p t ≡ an_int → A
  no_interface {t} h d = let e = (an_interface_at p t h).1 in absurd (let z : ◌≡◌ {A = ℕ} 0 1 = cc in omega arith)

  below_int : {t u : ℕ} → Sub p t u → declaration_at p u ≡ an_int → t ≡ u
  below_int {t} (T-SUB-CLASS {c = c} e) d = no_interface (ok.classes t c e).interface d
  below_int {t} (T-SUB-INTERFACE-LEFT {i₁ = a} {i₂ = b} e) d = no_interface (parent_types p ok t a b e).0 d
  below_int {t} (T-SUB-INTERFACE-RIGHT {i₁ = a} {i₂ = b} e) d = no_interface (parent_types p ok t a b e).1 d
  below_int (T-SUB-TRANS r s) d = let e = below_int s d in below_int r (ap (declaration_at p) e ∙ d) ∙ e
  below_int (T-SUB-EQ w) d = refl

  above_int : {t u : ℕ} → Sub p t u → declaration_at p t ≡ an_int → t ≡ u
  above_int (T-SUB-CLASS e) d = absurd (let z : ◌≡◌ {A = ℕ} 0 1 = cc in omega arith)
  above_int (T-SUB-INTERFACE-LEFT e) d = absurd (let z : ◌≡◌ {A = ℕ} 0 1 = cc in omega arith)
  above_int (T-SUB-INTERFACE-RIGHT e) d = absurd (let z : ◌≡◌ {A = ℕ} 0 1 = cc in omega arith)
  above_int (T-SUB-TRANS r s) d = let e = above_int r d in e ∙ above_int s (ap (declaration_at p) (sym e) ∙ d)
  above_int (T-SUB-EQ w) d = refl

  -- "Int is below only itself", and only itself is below Int.
  pub int_alone : (t : ℕ) → (Sub p t (int_of p) → t ≡ int_of p) × (Sub p (int_of p) t → t ≡ int_of p)
  int_alone t = (λ s. below_int s (int_declared p), λ s. sym (above_int s (int_declared p)))

  -- So what null fits it fits further up.
  pub nullable_up : {t u : ℕ} → Sub p t u → NullFits p t → NullFits p u
  nullable_up {t} {u} s (no_int h) = no_int (λ d. h (ap (declaration_at p) ((int_alone t).0 (rw (declared_int p u d) at s)) ∙ int_declared p))
