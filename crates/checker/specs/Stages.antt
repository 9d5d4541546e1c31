-- Check in stages, as the code goes through it: each is what Check answers once the questions before it got a yes.
use Rattle.std.specs.Prelude.{ℕ, ◌<◌, List, drop}
use Rattle.std.specs.declared.result.Result.{Result}
use Rattle.script.specs.declared.Question.{Question}
use Rattle.script.specs.declared.Refusal.{Refusal}
use Rattle.script.specs.declared.Section.TheVariants.{Nodes as nodes}
use Rattle.script.specs.Section.{count_of}
use Rattle.script.specs.Reading.{program_of}
use Rattle.script.specs.Asking.{first_no}
use Rattle.script.specs.Questions.{layout_questions}
use Rattle.std.specs.declared.result.Result.TheVariants.{Ok, Err}
use Rattle.typing.specs.Answers.{Answer, Verdict}
use Rattle.typing.specs.Typing.{bodies_of, walk}
use Rattle.typing.specs.Check.{member_questions, refused_or, walked}

-- A question with its place, as the code asks it: a yes, or a no at this place.
abbrev pub asked : Question → Result (Unit {0}) ℕ → Result (Unit {0}) Refusal
asked q (Ok u) = Ok u
asked q (Err place) = Err (record { question = q; place = place })

-- Questions 11 to 15.
unfoldable pub walk_stage : List ℕ → Verdict
walk_stage s = walked s (walk (program_of s) (bodies_of (program_of s)))

-- Questions 9 to 15.
unfoldable pub member_stage : List ℕ → Verdict
member_stage s = refused_or (first_no (member_questions s (program_of s))) (walk_stage s)

-- Questions 4 to 15: those that ask about records.
unfoldable pub record_stage : List ℕ → Verdict
record_stage s = refused_or (first_no (drop 3 (layout_questions s))) (member_stage s)

-- The node of a fault is a node of the script.
abbrev pub NodeThere : List ℕ → Answer → Type 0
NodeThere s (Ok t) = Unit {0}
NodeThere s (Err f) = f.node < count_of s nodes
