-- The type of a node that is told without a walk over its parts: where, and what is told.
use Rattle.std.specs.Prelude.{ℕ, ◌<◌, ◌≡◌, List}
use Rattle.script.specs.declared.Section.TheVariants.{Nodes as nodes}
use Rattle.std.specs.declared.option.Option.{Option as CodeOption}
use Rattle.std.specs.declared.option.Option.TheVariants.{Some}
use Rattle.script.specs.Section.{count_of}
use Rattle.script.specs.Syntax.{Point}
use Rattle.script.specs.Reading.{program_of, expr_at}
use Rattle.std.specs.declared.result.Result.TheVariants.{Ok}
use Rattle.typing.specs.Published.{WfEnv}
use Rattle.typing.specs.Typing.{inferred}
use Rattle.machine.specs.Machine.{context}
use Rattle.environments.specs.Chains.{Chain, bindings_in}

-- Node a of the script, and an environment of the block, whose variables have types.
pub record ScopedNode (s b : List ℕ) (env : ℕ) (a : Point) : Type 0 where
  pub there : a < count_of s nodes
  pub chain : Chain b env
  pub types : WfEnv (program_of s) (context (bindings_in b) env)

-- Node a has a type under the bindings of the environment.
pub record Inferable (s b : List ℕ) (env : ℕ) (a : Point) : Type 0 where
  pub type : ℕ
  pub is : inferred (program_of s) (context (bindings_in b) env) (expr_at s a) ≡ Ok type

-- The type that is told, if one is, is the one that is inferred.
abbrev pub Tells : List ℕ → List ℕ → ℕ → Point → CodeOption ℕ → Type 0
Tells s b env a r = (t : ℕ) → r ≡ Some t → inferred (program_of s) (context (bindings_in b) env) (expr_at s a) ≡ Ok t
