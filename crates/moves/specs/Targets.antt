-- What a move finds at its target.
use Rattle.std.specs.Prelude.{ℕ, ◌≡◌, List, ℤ}
use Rattle.std.proofs.Math.Option.{Option, none, some}
use Rattle.machine.specs.declared.Value.TheVariants.{Null as nil, Ref as ref, Int as int}
use Rattle.machine.specs.Config.{Object, Binding}
use Rattle.machine.specs.Machine.{object}
use Rattle.machine.specs.declared.Value.{Value}
use Rattle.std.specs.declared.option.Option.{Option as CodeOption}
use Rattle.std.specs.declared.option.Option.TheVariants.{Some, None}

-- What a target variable holds, q its binding: nothing, where it is not bound, its object is not there or it holds a number; null; or an object that is there.
pub data TargetIs (xs : List Object) : Option Binding → CodeOption Value → Type 0 where
  target_unbound : TargetIs xs none None
  target_absent : {y : Binding} {o : ℕ} → y.value ≡ ref o → object xs o ≡ none → TargetIs xs (some y) None
  target_number : {y : Binding} {z : ℤ} → y.value ≡ int z → TargetIs xs (some y) None
  target_null : {y : Binding} → y.value ≡ nil → TargetIs xs (some y) (Some nil)
  target_object : {y : Binding} {o : ℕ} {d : Object} → y.value ≡ ref o → object xs o ≡ some d → TargetIs xs (some y) (Some (ref o))
