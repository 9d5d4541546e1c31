-- What a look at the configuration says: which positions can move, and how the run has ended, if it has.
use Rattle.std.specs.Prelude.{ℕ, List}
use Rattle.std.proofs.Math.Option.{Option, none, some}
use Rattle.machine.specs.declared.Ending.{Ending}
use Rattle.machine.specs.Config.{code_of, Config}
use Rattle.machine.specs.Machine.{limits}
use Rattle.machine.specs.Accepted.{AcceptedCode}
use Rattle.machine.specs.WellFormed.{WellFormed}
use Rattle.state.specs.Represents.{Represents}
use Rattle.std.specs.declared.option.Option.{Option as CodeOption}
use Rattle.std.specs.declared.option.Option.TheVariants.{Some, None}

-- The block b is a well-formed configuration of the accepted script s.
pub record Standing (s b : List ℕ) : Type 0 where
  pub config : Config
  pub type : ℕ
  pub represents : Represents b config
  pub accepted : AcceptedCode (code_of s) type
  pub formed : WellFormed (code_of s) limits type config

-- What Run sees when it looks, as the code says it.
abbrev pub look_of : Option Ending → CodeOption Ending
look_of none = None
look_of (some k) = Some k
