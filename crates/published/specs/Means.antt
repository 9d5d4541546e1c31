-- What a move means in the published semantics.
use Rattle.std.specs.Prelude.{◌≡◌, Bool, true, false}
use Rattle.machine.specs.Config.{Code, Config}
use Rattle.published.specs.ReadAs.{reading, Steps}

-- What a move from c to d means in the published semantics: nothing, where it is silent (the flag), and one step where it is not.
pub data Means (s : Code) (c d : Config) : Bool → Type 0 where
  silently : d.stores ≡ c.stores → reading s d ≡ reading s c → Means s c d true
  publicly : Steps s.program (reading s c) (reading s d) → Means s c d false
