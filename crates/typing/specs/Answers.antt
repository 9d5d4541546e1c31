-- What the walk over an expression and Check answer.
use Rattle.std.specs.Prelude.{ℕ}
use Rattle.std.specs.declared.result.Result.{Result}
use Rattle.std.specs.declared.result.Result.TheVariants.{Err}
use Rattle.script.specs.declared.Question.{Question}
use Rattle.script.specs.declared.Refusal.{Refusal}
use Rattle.script.specs.Syntax.{Point}
use Rattle.typing.specs.declared.Fault.{Fault}

-- What the walk over an expression comes to: its type, or the question that gets a no and the node.
abbrev pub Answer : Type 0
Answer = Result ℕ Fault

abbrev pub faulty : Question → Point → Answer
faulty q n = Err (record { question = q; node = n })

-- What Check answers: the start's type, or the question that gets a no and the place.
abbrev pub Verdict : Type 0
Verdict = Result ℕ Refusal

abbrev pub refusal : Question → ℕ → Verdict
refusal q place = Err (record { question = q; place = place })
