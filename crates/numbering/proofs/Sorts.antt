-- What holds of each sort holds of any.
use Prim.Native.Nat.{ℕ, ◌/◌}
use mathlib.Core.Path.{◌≡◌}
use mathlib.Core.Bool.{false}
use native.Mathlib.Omega.{arith}
use borrow.Author.Tests.{eq-eqb, ne_eqb}
use lib.Dec.{eqb}
use Rattle.grammar.specs.Roles.{R_SIGNATURE, R_FIELD, R_DECLARED, R_TYPE, R_METHOD_NAME, R_BINDER, R_FIELD_USED, R_METHOD_USED, BINDING, B_OTHER}
use Rattle.numbering.specs.Numbers.{role_test}
use Rattle.std.specs.Prelude.{Some, None}
use Rattle.numbering.specs.Chains.{sort_number, SortIs}
use Rattle.numbering.specs.declared.Sort.{Sort}
use Rattle.numbering.specs.declared.Sort.TheVariants.{Methods, Fields, Variables, Declared, Types}

pub every_sort : (P : Sort → Type 0) → P Declared → P Types → P Methods → P Fields → P Variables → (s : Sort) → P s
every_sort P d t m f v Declared = d
every_sort P d t m f v Types = t
every_sort P d t m f v Methods = m
every_sort P d t m f v Fields = f
every_sort P d t m f v Variables = v
