-- What the code of the walk is lent: a table that says which variables are bound, and to which types.
use Rattle.std.specs.Prelude.{ℕ, suc, ◌≡◌, List, get_or}
use Rattle.std.proofs.Math.Option.{Option, none, some}
use Rattle.script.specs.Syntax.{Slot}
use Rattle.script.specs.Reading.{program_of}
use Rattle.typing.specs.Members.{type_in}
use Rattle.typing.specs.Published.{WfEnv}
use Rattle.names.specs.Ranks.{RankOf}

-- The type of a variable in the table of an environment: 0 where it is not bound, else its type and 1 more.
abbrev pub bound_word : Option ℕ → ℕ
bound_word none = 0
bound_word (some t) = suc t

-- The table of an environment: the word at the rank of each variable is its type.
pub record EnvIs (s facts table : List ℕ) (Γ : List Slot) : Type 0 where
  pub types : WfEnv (program_of s) Γ
  pub holds : {x k : ℕ} → RankOf s facts x k → get_or table k 0 ≡ bound_word (type_in Γ x)
