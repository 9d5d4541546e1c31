-- Check: questions 1 to 15.
use Rattle.std.specs.Prelude.{ℕ, Bool, true, false, ◌&&◌, List, [], ◌∷◌, ◌++◌, map, eqb}
use Rattle.std.proofs.Math.Option.{Option, none, some}
use Rattle.script.specs.declared.Question.TheVariants.{Joins, Classes}
use Rattle.script.specs.declared.Section.{Section}
use Rattle.script.specs.declared.Section.TheVariants.{Interfaces as interfaces, Classes as classes, Nodes as nodes}
use Rattle.script.specs.Section.{record_at}
use Rattle.script.specs.Syntax.{Signature, Interface, lists, extends, Class, Program}
use Rattle.script.specs.Reading.{interface_at, class_at, program_of}
use Rattle.script.specs.declared.Refusal.{Refusal}
use Rattle.script.specs.Asking.{number_of, Asked, first_no, lowest_in}
use Rattle.script.specs.Questions.{all_of, layout_questions}
use Rattle.std.specs.declared.result.Result.TheVariants.{Ok, Err}
use Rattle.typing.specs.Answers.{Answer, Verdict, refusal}
use Rattle.typing.specs.Members.{meaning, own_method}
use Rattle.typing.specs.Typing.{bodies_of, walk}

-- The method names that interfaces list.
unfoldable pub names_in : List Interface → List ℕ
names_in [] = []
names_in (lists gs ∷ l) = map (λ g. g.name) gs ++ names_in l
names_in (extends a b ∷ l) = names_in l

abbrev pub same_types : Signature → Signature → Bool
same_types g h = eqb g.param h.param && eqb g.result h.result

-- 9. "Do all meanings of a method name in a join have the same types?" Joins are asked in order, so each parent's first meaning is its only one.
abbrev pub agree_test : Option Signature → Option Signature → Bool
agree_test none b = true
agree_test (some g) none = true
agree_test (some g) (some h) = same_types g h

abbrev pub join_test : Program → Interface → Bool
join_test p (lists gs) = true
join_test p (extends a b) = all_of (λ m. agree_test (meaning p m a) (meaning p m b)) (names_in p.interfaces)

unfoldable pub joins_test : List ℕ → Program → List (Section × (ℕ → Bool))
joins_test s p = (interfaces, λ i. join_test p (interface_at s i)) ∷ []

-- 10. "Has each class every method of its interface, with the same types?"
abbrev pub covers_test : Option Signature → Option Signature → Bool
covers_test none b = true
covers_test (some g) none = false
covers_test (some g) (some h) = same_types g h

abbrev pub class_test : Program → Class → Bool
class_test p c = all_of (λ m. covers_test (meaning p m c.implements) (own_method c m)) (names_in p.interfaces)

unfoldable pub classes_test : List ℕ → Program → List (Section × (ℕ → Bool))
classes_test s p = (classes, λ i. class_test p (class_at s i)) ∷ []

unfoldable pub member_questions : List ℕ → Program → List Asked
member_questions s p =
    record { question = Joins; no_at = lowest_in s (joins_test s p) } ∷
    record { question = Classes; no_at = lowest_in s (classes_test s p) } ∷
    []

abbrev pub refused_or : Option Refusal → Verdict → Verdict
refused_or none r = r
refused_or (some f) r = Err f

-- Questions 11 to 15, with the node's record as the place.
abbrev pub walked : List ℕ → Answer → Verdict
walked s (Ok t) = Ok t
walked s (Err f) = refusal f.question (record_at s nodes f.node)

-- "Check goes through 1 to 15", and "answers the start's type".
unfoldable pub check_of : List ℕ → Verdict
check_of s =
    let p = program_of s in
    let walk_last = walked s (walk p (bodies_of p)) in
    let members-next = refused_or (first_no (member_questions s p)) walk_last in
    refused_or (first_no (layout_questions s)) members-next

-- Document 01's numbers for each answer: "A refusal returns its number and place, with every other number 0", and
-- "A call that is not refused has number 0 and place 0."
abbrev pub verdict_number : Verdict → ℕ
verdict_number (Ok t) = 0
verdict_number (Err r) = number_of r.question

abbrev pub verdict_place : Verdict → ℕ
verdict_place (Ok t) = 0
verdict_place (Err r) = r.place

abbrev pub verdict_type : Verdict → ℕ
verdict_type (Ok t) = t
verdict_type (Err _) = 0
