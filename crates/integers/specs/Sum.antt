-- "A sum outside the range fails the thread as null does": a sum, or that it is outside.
use Rattle.std.specs.Prelude.{Bool, true, false, ℤ, ◌+ℤ◌}
use Rattle.words.specs.Integer.{range_test}
use Rattle.std.specs.declared.option.Option.{Option as CodeOption}
use Rattle.std.specs.declared.option.Option.TheVariants.{Some, None}

-- A number by whether it is in range.
abbrev pub within : Bool → ℤ → CodeOption ℤ
within true z = Some z
within false z = None

abbrev pub sum_of : ℤ → ℤ → CodeOption ℤ
sum_of x y = within (range_test (x +ℤ y)) (x +ℤ y)
