-- What a move finds in a variable that is added.
use Rattle.std.proofs.Math.Option.{Option, none, some}
use Rattle.machine.specs.declared.Value.{Value}
use Rattle.machine.specs.declared.Value.TheVariants.{Null as nil, Ref as ref, Int as int}
use Rattle.machine.specs.Config.{Binding}
use Rattle.std.specs.Prelude.{ℤ}
use Rattle.std.specs.declared.option.Option.{Option as CodeOption}
use Rattle.std.specs.declared.option.Option.TheVariants.{Some, None}

-- What a variable holds that is added, as the code says it.
abbrev pub addend_in : Value → CodeOption ℤ
addend_in nil = None
addend_in (ref o) = None
addend_in (int z) = Some z

abbrev pub addend_of : Option Binding → CodeOption ℤ
addend_of none = None
addend_of (some b) = addend_in b.value
