-- A new object, which has null in every field, and then the initial values.
use Rattle.std.specs.Prelude.{ℕ, ◌<◌, ◌≡◌, false, List, [], ◌∷◌, ◌++◌, length, replicate}
use Rattle.words.specs.Word.{bytes}
use Rattle.limits.specs.Limits.{OBJECTS}
use Rattle.machine.specs.declared.Value.{Value}
use Rattle.machine.specs.declared.Value.TheVariants.{Null as nil}
use Rattle.block.specs.Block.{Parts, laid}
use Rattle.representation.specs.Changed.{with_objects}

-- The parts p with one object more, the newest: open, of class c and with these fields.
abbrev pub with_newest : Parts → ℕ → List Value → Parts
with_newest p c vs = with_objects p (p.objects ++ record { class = c; shut = false; fields = vs } ∷ [])

-- The newest object of the block b has number n and `count` fields, all null.
pub record NewObject (b : List ℕ) (n count : ℕ) : Type 0 where
  pub parts : Parts
  pub class : ℕ
  pub block : b ≡ bytes (laid (with_newest parts class (replicate count nil)))
  pub place : n ≡ length parts.objects
  pub room : n < OBJECTS

-- From the block b to the block d object n, the newest, gets these fields for those that it had, and nothing else changes.
abbrev pub FieldsBecome : List ℕ → List ℕ → ℕ → List Value → List Value → Type 0
FieldsBecome b d n old new = (p : Parts) (c : ℕ) → n ≡ length p.objects → b ≡ bytes (laid (with_newest p c old)) → d ≡ bytes (laid (with_newest p c new))
