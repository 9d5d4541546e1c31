-- What a Run asks of a class: the number of a field, and the method of a name.
use Rattle.std.specs.Prelude.{ℕ, suc, ◌<◌, ◌≡◌, cond, List, [], ◌∷◌, eqb}
use Rattle.std.proofs.Math.Option.{Option, none, some, map}
use Rattle.std.specs.declared.option.Option.{Option as CodeOption}
use Rattle.std.specs.declared.option.Option.TheVariants.{Some, None}
use Rattle.script.specs.declared.Section.TheVariants.{Methods as methods}
use Rattle.script.specs.Section.{count_of}
use Rattle.script.specs.Syntax.{Slot}
use Rattle.script.specs.Reading.{method_at, program_of}
use Rattle.typing.specs.Members.{defined_in}

-- The number of the first field of this name, from 0 on in the order in which they are declared, as the values of an object stand.
abbrev pub field_number : List Slot → ℕ → Option ℕ
field_number [] f = none
field_number (d ∷ ds) f = cond (eqb d.name f) (some 0) (map suc (field_number ds f))

-- methods(C)(m), appendix A.3, as the code says it: the record of the method that the type t defines, or nothing where it defines none.
pub data MethodIs (s : List ℕ) (t m : ℕ) : CodeOption ℕ → Type 0 where
  no_method : defined_in (program_of s) t m ≡ none → MethodIs s t m None
  method_found_at : {j : ℕ} → j < count_of s methods → defined_in (program_of s) t m ≡ some (method_at s j) → MethodIs s t m (Some j)
