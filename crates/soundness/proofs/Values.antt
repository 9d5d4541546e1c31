-- Which values fit which types: what fits a type fits what is above it, a number fits Int alone, only numbers fit Int, and a field's initial value fits its
-- type.
use Prim.Native.Nat.{ℕ}
use native.Mathlib.Omega.{arith}
use mathlib.Core.Path.{◌≡◌, refl, ◌∙◌, ap}
use mathlib.Core.Bool.{Bool}
use mathlib.Core.List.{List}
use lib.IntN.{ℤ, pos}
use Rattle.script.specs.Asking.{Decides, holds, fails}
use Rattle.script.specs.Syntax.{an_int, int_of, declaration_at}
use Rattle.script.proofs.Declarations.{int_declared, declared_int}
use Rattle.typing.specs.Published.{T-WF-INT, T-SUB-EQ, no_int}
use Rattle.typing.proofs.Int.{decides_int, int_alone}
use Rattle.machine.specs.declared.Value.{Value}
use Rattle.machine.specs.declared.Value.TheVariants.{Int as int}
use Rattle.machine.specs.declared.Want.{Want}
use Rattle.machine.specs.declared.Want.TheVariants.{Upto as upto}
use Rattle.machine.specs.Config.{Code, Object, Stores}
use Rattle.machine.specs.Machine.{initial_by, initial_of}
use Rattle.machine.specs.WellFormed.{Meets, meets_type, null_type, ValueFits, fits_nil, fits_ref, fits_int, StoresOk}
use Rattle.machine.specs.Accepted.{AcceptedCode}
use Rattle.machine.proofs.Types.{meets_below, null_meets}

-- The initial value of a field's type fits it.
pub initial_fits : (s : Code) (xs : List Object) (t : ℕ) → ValueFits s xs (initial_of s.program t) (upto t)
initial_fits s xs t = go (decides_int s.program t)
  where
    go : {b : Bool} → Decides (declaration_at s.program t ≡ an_int) b → ValueFits s xs (initial_by b) (upto t)
    go (holds d) = fits_int {z = pos 0} {w = upto t} (omega arith) (rw (← declared_int s.program t d) (meets_type (T-SUB-EQ (T-WF-INT d))))
    go (fails n) = fits_nil (null_type (no_int n))

module _ {s : Code} {start : ℕ} (acc : AcceptedCode s start) where
  -- A value of a type fits what the type meets.
  pub fits_meets : {xs : List Object} {v : Value} {t : ℕ} {u : Want} → ValueFits s xs v (upto t) → Meets s t u → ValueFits s xs v u
  fits_meets (fits_nil (null_type o)) m = fits_nil (null_meets acc o m)
  fits_meets (fits_ref h (meets_type b)) m = fits_ref h (meets_below b m)
  fits_meets (fits_int r (meets_type b)) m = fits_int r (meets_below b m)

  -- No number fits a type that is not Int, so a target is null or an object.
  pub no_number : {xs : List Object} {z : ℤ} {t : ℕ} → (declaration_at s.program t ≡ an_int → ⊥) → ValueFits s xs (int z) (upto t) → ⊥
  no_number {t = t} n (fits_int r (meets_type b)) =
      n (ap (declaration_at s.program) ((int_alone s.program acc.regular t).1 b) ∙ int_declared s.program)

  -- Nothing but numbers fits Int: objects are of classes.
  pub a_number : {st : Stores} {v : Value} {t : ℕ} → StoresOk s st → declaration_at s.program t ≡ an_int
      → ValueFits s st.objects v (upto t) → (z : ℤ) × (v ≡ int z)
  a_number ok d (fits_nil (null_type (no_int n))) = absurd (n d)
  a_number {t = t} ok d (fits_ref {o = o} {x = x} h (meets_type b)) =
      let e : x.class ≡ int_of s.program = (int_alone s.program acc.regular x.class).0 (rw (declared_int s.program t d) at b) in
      absurd (omega (arith, (ok.heap o x h).class.last))
  a_number ok d (fits_int {z = z} r m) = (z, refl)
