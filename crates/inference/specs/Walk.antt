-- What the walk over expressions asks where it stands, and what it answers there.
use Rattle.std.specs.Prelude.{ℕ, ◌+◌, ◌<◌, ◌≡◌, List, ◌++◌, map, length}
use Rattle.script.specs.declared.Question.TheVariants.{Variables}
use Rattle.script.specs.declared.Section.TheVariants.{Nodes as nodes}
use Rattle.script.specs.Section.{count_of, node_word}
use Rattle.script.specs.Syntax.{Point, Expr, Slot, Method, Program}
use Rattle.script.specs.Reading.{program_of}
use Rattle.std.specs.declared.result.Result.TheVariants.{Ok}
use Rattle.typing.specs.Answers.{Answer}
use Rattle.typing.specs.Environments.{of_lock, body_env}
use Rattle.typing.specs.Members.{type_in}
use Rattle.typing.specs.Typing.{and_then, or_faulty, use_no, unless_no, inferred, checked, Body, walk}
use Rattle.names.specs.Ranks.{RANKS, Names}
use Rattle.inference.specs.Tables.{EnvIs}

-- Node n, which names a variable at place j, with the table of an environment.
pub record Target (s env : List ℕ) (n : Point) (j : ℕ) : Type 0 where
  pub size : length env ≡ RANKS
  pub named : Names s n j (node_word s n (1 + j))

-- Node n, with an environment.
pub record NodeInEnv (s facts env : List ℕ) (n : Point) : Type 0 where
  pub size : length env ≡ RANKS
  pub there : n < count_of s nodes
  pub variables : List Slot
  pub environment : EnvIs s facts env variables

-- The answer where an expression is inferred, and where it is checked against the type t, in every environment that the table is of.
abbrev pub Inferred : List ℕ → List ℕ → List ℕ → Expr → Answer → Type 0
Inferred s facts env e r = (Γ : List Slot) → EnvIs s facts env Γ → r ≡ inferred (program_of s) Γ e

abbrev pub Checked : List ℕ → List ℕ → List ℕ → Expr → ℕ → Answer → Type 0
Checked s facts env e t r = (Γ : List Slot) → EnvIs s facts env Γ → r ≡ checked (program_of s) Γ e t

-- What is answered before a lock's part: the type of its target x, where that may be locked.
abbrev pub locked_type : Program → List Slot → Point → ℕ → Answer
locked_type p Γ n x = or_faulty Variables n (type_in Γ x) (λ t. unless_no (use_no p n (of_lock t)) n (Ok t))

abbrev pub Lockable : List ℕ → List ℕ → List ℕ → Point → ℕ → Answer → Type 0
Lockable s facts env n x r = (Γ : List Slot) → EnvIs s facts env Γ → r ≡ locked_type (program_of s) Γ n x

-- The bodies of these methods, in the class with type t, and the answer for one of them.
abbrev pub bodies_in : ℕ → List Method → List Body
bodies_in t ms = map (λ d. record { class = t; method = d }) ms

abbrev pub body_answer : Program → ℕ → Method → Answer
body_answer p t d = checked p (body_env t d.signature) d.body d.signature.result

-- The walk over these bodies comes to r: a fault is the answer, and after a type the rest is walked.
abbrev pub WalksAs : List ℕ → List Body → Answer → Type 0
WalksAs s bs r = (l : List Body) → walk (program_of s) (bs ++ l) ≡ and_then r (λ t. walk (program_of s) l)
