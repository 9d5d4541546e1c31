-- What Run does with a block, as the code answers it.
use Rattle.std.specs.Prelude.{ℕ, ◌≡◌, List}
use Rattle.script.specs.Statements.{WithinLayout}
use Rattle.machine.specs.Config.{code_of, Config}
use Rattle.machine.specs.Accepted.{AcceptedCode}
use Rattle.std.specs.declared.result.Result.{Result}
use Rattle.std.specs.declared.result.Result.TheVariants.{Ok, Err}
use Rattle.calls.specs.declared.LentQuestion.{LentQuestion}
use Rattle.calls.specs.Calls.{Ran, lent_number}
use Rattle.calls.specs.Answers.{Holds}
use Rattle.replies.specs.declared.Played.{Played}

-- The number of the question that gets a no, and 0 where none does.
abbrev pub refusal_number : {A : Type 0} → Result A LentQuestion → ℕ
refusal_number (Ok x) = 0
refusal_number (Err q) = lent_number q

-- "A refusal returns its number and place, with every other number 0"
abbrev pub numbers_of : Result Played LentQuestion → Played
numbers_of (Ok p) = p
numbers_of (Err q) = record { stop = 0; read = 0; moves = 0 }

-- The reply's numbers and the block afterwards. (A place is told by the caller: it is 0 from here on.)
pub record Replied (a : Ran) (after : List ℕ) (r : Result Played LentQuestion) : Type 0 where
  pub number : refusal_number r ≡ a.number
  pub stop : (numbers_of r).stop ≡ a.stop
  pub read : (numbers_of r).read ≡ a.read
  pub moves : (numbers_of r).moves ≡ a.moves
  pub block : after ≡ a.block

-- The block holds a configuration of the accepted script.
pub record Runnable (s b : List ℕ) : Type 0 where
  pub within : WithinLayout s
  pub type : ℕ
  pub accepted : AcceptedCode (code_of s) type
  pub config : Config
  pub holds : Holds s type b config
