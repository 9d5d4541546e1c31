-- What the code of the walk finds of an expression: what it gives, whatever the aim.
use Rattle.std.specs.Prelude.{ℕ, ◌≡◌, List}
use Rattle.std.specs.declared.result.Result.{Result}
use Rattle.std.specs.declared.result.Result.TheVariants.{Ok, Err}
use Rattle.script.specs.declared.Question.TheVariants.{Nulls}
use Rattle.script.specs.Syntax.{Point, Expr, Slot, Program}
use Rattle.script.specs.Reading.{program_of}
use Rattle.typing.specs.declared.Fault.{Fault}
use Rattle.typing.specs.declared.Aim.{Aim}
use Rattle.typing.specs.declared.Aim.TheVariants.{Infers as infers, Checks as checks}
use Rattle.typing.specs.Answers.{Answer, faulty}
use Rattle.typing.specs.Members.{below}
use Rattle.typing.specs.Typing.{fits, null_test, answer}
use Rattle.inference.specs.declared.Given.{Given}
use Rattle.inference.specs.declared.Given.TheVariants.{Typed as typed_at, Null as null-at}
use Rattle.inference.specs.Tables.{EnvIs}

-- The answer for an expression that gives this, or gets a no, where it is inferred, and for one that gives this with any aim. "A null is checked against any
-- type and inferred never", but "Null does not fit Int (14)".
abbrev pub inferred_as : Result Given Fault → Answer
inferred_as (Ok (typed_at t n)) = Ok t
inferred_as (Ok (null-at n)) = faulty Nulls n
inferred_as (Err f) = Err f

abbrev pub answer_as : Program → Aim → Given → Answer
answer_as p infers g = inferred_as (Ok g)
answer_as p (checks t) (typed_at u n) = fits (below p u t) n t
answer_as p (checks t) (null-at n) = fits (null_test p t) n t

-- The same of an expression that gives this, or gets a no whatever the aim.
abbrev pub outcome_as : Program → Aim → Result Given Fault → Answer
outcome_as p a (Ok g) = answer_as p a g
outcome_as p a (Err f) = Err f

-- What an expression gives, in an environment and in every one that the table is of.
abbrev pub GivenIn : Program → List Slot → Expr → Result Given Fault → Type 0
GivenIn p Γ e r = (a : Aim) → outcome_as p a r ≡ answer p Γ e a

abbrev pub GivenAs : List ℕ → List ℕ → List ℕ → Expr → Result Given Fault → Type 0
GivenAs s facts env e r = (Γ : List Slot) → EnvIs s facts env Γ → GivenIn (program_of s) Γ e r

-- What node n gives by what is inferred for it, where it has no last part or gets a no before that.
abbrev pub given_by : Point → Answer → Result Given Fault
given_by n (Ok t) = Ok (typed_at t n)
given_by n (Err f) = Err f
