-- What the stages of Check answer, from the questions that are left to what comes after them.
use mathlib.Core.Path.{◌≡◌}
use mathlib.Core.Bool.{true}
use mathlib.Core.List.{List, [], ◌∷◌}
use mathlib.Core.Option.{none}
use Prim.Native.Nat.{ℕ}
use Rattle.script.specs.declared.Question.TheVariants.{Joins, Classes}
use Rattle.script.specs.Reading.{program_of}
use Rattle.script.specs.Asking.{first_no, lowest_in}
use Rattle.script.specs.Questions.{interfaces_test, owners_test, types_test, nodes_test, names_test, layout_questions}
use Rattle.script.specs.Statements.{OwnersAre, WithinLayout}
use Rattle.sections.specs.Laid.{Laid}
use Rattle.script.proofs.Tests.{says_yes}
use Rattle.script.proofs.LayoutLaws.{decides_owners, lowest_interfaces, lowest_types, lowest_nodes, lowest_names}
use Rattle.typing.specs.Answers.{Verdict}
use Rattle.typing.specs.Check.{joins_test, classes_test, member_questions}
use Rattle.checker.specs.Stages.{walk_stage, member_stage, record_stage}
use Rattle.checker.proofs.CheckLaws.{Left, layout_asked, each_of}

-- Questions 4 to 8.
module _ (s : List ℕ) where
  pub ask_interfaces : Left (layout_asked s) (member_stage s) (record_stage s)
  unfolding record_stage layout_questions
  ask_interfaces = record { then = λ r h. h }

  pub then_members : Left [] (member_stage s) (record_stage s) → (r : Verdict) → r ≡ member_stage s → r ≡ record_stage s
  unfolding first_no
  then_members left r h = left.then r h

  -- All of them got a yes.
  pub within : Laid s → lowest_in s (interfaces_test s) ≡ none → owners_test s ≡ true → lowest_in s (types_test s) ≡ none → lowest_in s (nodes_test s) ≡ none
      → lowest_in s (names_test s) ≡ none → WithinLayout s
  within l n₄ y₅ n₆ n₇ n₈ =
      let p = l.places_are in
      let o : OwnersAre s = says_yes (decides_owners s) y₅ in
      record {
        length_is = l.length_is;
        counts_are = l.counts_are;
        places_are = p;
        interfaces_are = each_of (lowest_interfaces s p) n₄;
        owners_are = o;
        types_are = each_of (lowest_types s p) n₆;
        nodes_are = each_of (lowest_nodes s p) n₇;
        names_are = each_of (lowest_names s p o) n₈;
      }

-- Questions 9 and 10.
module _ (s : List ℕ) where
  pub ask_joins :
      Left
      (record { question = Joins; no_at = lowest_in s (joins_test s (program_of s)) } ∷
      record { question = Classes; no_at = lowest_in s (classes_test s (program_of s)) } ∷
      [])
      (walk_stage s)
      (member_stage s)
  unfolding member_stage member_questions
  ask_joins = record { then = λ r h. h }

  pub then_walk : Left [] (walk_stage s) (member_stage s) → (r : Verdict) → r ≡ walk_stage s → r ≡ member_stage s
  unfolding first_no
  then_walk left r h = left.then r h
