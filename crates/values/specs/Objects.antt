-- The objects of a block, one by one.
use Rattle.std.specs.Prelude.{ℕ, ◌<◌, ◌≡◌, Bool, ◌&&◌, List, length, get_or}
use Rattle.limits.specs.Limits.{BLOCK}
use Rattle.machine.specs.declared.Value.{Value}
use Rattle.machine.specs.Config.{Code, Object}
use Rattle.typing.specs.Members.{fields_of}
use Rattle.machine.specs.Machine.{field_count}
use Rattle.machine.specs.Decide.{is_class_test, fields_test}
use Rattle.block.specs.declared.Area.TheVariants.{Objects}
use Rattle.block.specs.Layout.{word_in, field_word}
use Rattle.block.specs.Values.{value_in}
use Rattle.block.specs.Decode.{object_in}
use Rattle.representation.specs.InOrder.{AreaOk}

-- What the code of the question relies on beside the script: the block has the bytes of a block, and its objects are in order.
pub record ObjectsInOrder (s b : List ℕ) : Type 0 where
  pub long : length b ≡ BLOCK
  pub small : (i : ℕ) → get_or b i 0 < 256
  pub objects : AreaOk (field_count s) b Objects

-- The value of field k of the object with number i.
abbrev pub field_value_at : List ℕ → ℕ → ℕ → Value
field_value_at b i k = value_in (word_in b Objects i) (field_word k)

-- The object with number i: "(class, open or shut, fields)".
abbrev pub object_at : (ℕ → ℕ) → List ℕ → ℕ → Object
object_at field_count b i = object_in field_count (word_in b Objects i)

-- WF-HEAP of one object: its class is a class, and "value types fit".
abbrev pub object_fits : Code → List Object → Object → Bool
object_fits s xs x = is_class_test s x && fields_test s xs (fields_of s.program x.class) x.fields
