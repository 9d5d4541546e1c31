-- What `verdict_of` answers: a law for each of its returns, one question after the other.
use Prim.Native.Nat.{ℕ, ◌<◌, ◌≤◌}
use mathlib.Core.Path.{◌≡◌, refl, sym, ap, ◌∙◌}
use mathlib.Core.Bool.{Bool, true, false}
use mathlib.Core.List.{List, [], ◌∷◌}
use mathlib.Core.Option.{Option, none, some}
use native.Mathlib.Omega.{arith}
use lib.ListN.{length, replicate}
use Rattle.std.specs.declared.result.Result.{Result}
use Rattle.script.specs.declared.Question.{Question}
use Rattle.script.specs.declared.Question.TheVariants.{Length, Counts, Places, Interfaces, Owners, Types, Nodes, Names}
use Rattle.script.specs.declared.Refusal.{Refusal}
use Rattle.limits.specs.Limits.{CONTENTS}
use Rattle.script.specs.declared.Section.TheVariants.{Nodes as nodes}
use Rattle.script.specs.Section.{count_of, record_at}
use Rattle.script.specs.Reading.{program_of}
use Rattle.script.specs.Statements.{WithinLayout}
use Rattle.script.specs.Asking.{Asked, first_no, at_zero, lowest_in, Asks, Each, Lowest, all_good, lowest_at}
use Rattle.script.specs.Questions.{length_test, counts_test, places_test, interfaces_test, owners_test, types_test, nodes_test, names_test, layout_questions}
use Rattle.sections.specs.Laid.{Laid, passed_of}
use Rattle.slices.specs.Zero.{AllZero}
use Rattle.script.proofs.Lists.{zeros}
use Rattle.script.proofs.Tests.{says_yes}
use Rattle.script.proofs.LayoutLaws.{decides_length, decides_counts, decides_places}
use Rattle.std.specs.declared.result.Result.TheVariants.{Ok, Err}
use Rattle.typing.specs.Answers.{Answer, Verdict, refusal}
use Rattle.typing.specs.declared.Fault.{Fault}
use Rattle.typing.specs.Typing.{bodies_of, walk}
use Rattle.typing.specs.Check.{refused_or, walked, check_of}
use Rattle.subtypes.specs.Tables.{Starts}
use Rattle.names.specs.Facts.{Facts}
use Rattle.checker.specs.Lent.{TablesFilled}
use Rattle.checker.specs.Stages.{asked, NodeThere, walk_stage, member_stage, record_stage}
use Rattle.typing.proofs.Points.{fault_there}

-- the answer to some questions, and what comes after them
abbrev pub answer_to : List Asked → Verdict → Verdict
answer_to l r = refused_or (first_no l) r

-- What is left to ask: an answer to the questions of l, and to v after them, is the whole answer w.
pub record Left (l : List Asked) (v w : Verdict) : Type 0 where
  pub then : (r : Verdict) → r ≡ answer_to l v → r ≡ w

-- What the code found of a question that gets its place from o, and what it answers by that.
pub record Found (q : Question) (o : Option ℕ) (r : Result (Unit {0}) Refusal) : Type 0 where
  pub passed : Result (Unit {0}) ℕ
  pub found : passed ≡ passed_of o
  pub answered : r ≡ asked q passed

pub found : {q : Question} {o : Option ℕ} {p : Result (Unit {0}) ℕ} {r : Result (Unit {0}) Refusal} → p ≡ passed_of o → r ≡ asked q p → Found q o r
found {p = p} e k = record { passed = p; found = e; answered = k }

pub found_whole : {q : Question} {b c : Bool} {p : Result (Unit {0}) ℕ} {r : Result (Unit {0}) Refusal} → b ≡ c → p ≡ passed_of (at_zero b) → r ≡ asked q p → Found q (at_zero c) r
found_whole h e k = found (rw h at e) k

pub says_none : {q : Question} (o : Option ℕ) {r : Result (Unit {0}) Refusal} {u : Unit {0}} → Found q o r → r ≡ Ok u → o ≡ none
says_none none x k = refl
says_none {q} (some i) x k = absurd (let e : asked q x.passed ≡ Err (record { question = q; place = i }) = ap (asked q) x.found in let h = x.answered in let z : ◌≡◌ {A = ℕ} 0 1 = cc in omega arith)

-- A question about the script as a whole that none was found of got a yes.
pub zero_yes : (b : Bool) → at_zero b ≡ none → b ≡ true
zero_yes true e = refl
zero_yes false e = absurd (let z : ◌≡◌ {A = ℕ} 0 1 = cc in omega arith)

pub goes_on : {q : Question} {o : Option ℕ} {l : List Asked} {v w : Verdict} {r : Result (Unit {0}) Refusal} {u : Unit {0}} → Left (record { question = q; no_at = o } ∷ l) v w → Found q o r → r ≡ Ok u → Left l v w
unfolding first_no
goes_on {q} {o} {l} {v} left x k = record { then = λ y h. left.then y (rw (says_none o x k) h) }

pub stops : {q : Question} {o : Option ℕ} {l : List Asked} {v w : Verdict} {r : Result (Unit {0}) Refusal} (f : Refusal) → Left (record { question = q; no_at = o } ∷ l) v w → Found q o r → r ≡ Err f → Err f ≡ w
unfolding first_no
stops {q} {o} {l} {v} {w} {r} f left x k = left.then (Err f) (go o (sym k ∙ x.answered ∙ ap (asked q) x.found))
  where
    go : (o : Option ℕ) → Err f ≡ asked q (passed_of o) → Err f ≡ answer_to (record { question = q; no_at = o } ∷ l) v
    go none e = absurd (let z : ◌≡◌ {A = ℕ} 0 1 = cc in omega arith)
    go (some i) e = let d : f ≡ record { question = q; place = i } = cc in rw d

-- Questions 1 to 3.
module _ (s : List ℕ) where
  pub contents_fit : length_test s ≡ true → CONTENTS ≤ length s
  contents_fit e = (says_yes (decides_length s) e).least

  pub laid : length_test s ≡ true → counts_test s ≡ true → places_test s ≡ true → Laid s
  laid a b c = record { length_is = says_yes (decides_length s) a; counts_are = says_yes (decides_counts s) b; places_are = says_yes (decides_places s) c }

  abbrev pub layout_asked : List Asked
  layout_asked =
      record { question = Interfaces; no_at = lowest_in s (interfaces_test s) } ∷
      record { question = Owners; no_at = at_zero (owners_test s) } ∷
      record { question = Types; no_at = lowest_in s (types_test s) } ∷
      record { question = Nodes; no_at = lowest_in s (nodes_test s) } ∷
      record { question = Names; no_at = lowest_in s (names_test s) } ∷
      []

  pub ask_length :
      Left
      (record { question = Length; no_at = at_zero (length_test s) } ∷
      record { question = Counts; no_at = at_zero (counts_test s) } ∷
      record { question = Places; no_at = at_zero (places_test s) } ∷
      layout_asked)
      (member_stage s)
      (check_of s)
  unfolding check_of member_stage walk_stage layout_questions
  ask_length = record { then = λ r h. h }

  pub then_records : Left layout_asked (member_stage s) (check_of s) → (r : Verdict) → r ≡ record_stage s → r ≡ check_of s
  unfolding layout_questions record_stage
  then_records left r h = left.then r h

pub each_of : {s : List ℕ} {l : Asks} {o : Option ℕ} → Lowest s l o → o ≡ none → Each s l
each_of (all_good g) e = g
each_of (lowest_at n) e = absurd (let z : ◌≡◌ {A = ℕ} 0 1 = cc in omega arith)

-- The walk's answer as a verdict.
module _ (s : List ℕ) (a : Answer) where
  pub placed_type : (t : ℕ) → a ≡ Ok t → Ok t ≡ walked s a
  placed_type t e = rw e

  pub placed_there : (f : Fault) → a ≡ Err f → NodeThere s a → f.node ≤ count_of s nodes
  placed_there f e h = let k : f.node < count_of s nodes = rw e at h in omega arith

  pub placed_fault : (f : Fault) (place : ℕ) → a ≡ Err f → place ≡ record_at s nodes f.node → refusal f.question place ≡ walked s a
  placed_fault f place e h = rw (e, h)

  pub node_there : WithinLayout s → a ≡ walk (program_of s) (bodies_of (program_of s)) → NodeThere s a
  node_there w e = go a e
    where
      go : (a : Answer) → a ≡ walk (program_of s) (bodies_of (program_of s)) → NodeThere s a
      go (Ok t) h = tt
      go (Err f) h = fault_there s w f.question f.node (sym h)

  pub walk_is : (v : Verdict) → a ≡ walk (program_of s) (bodies_of (program_of s)) → v ≡ walked s a → v ≡ walk_stage s
  unfolding walk_stage
  walk_is v e h = rw (← e) h

-- A new table is zeros.
pub new_zeros : (n : ℕ) → AllZero (replicate n 0)
new_zeros n = record { zero = zeros n }

-- Filled tables are what they must be after every verdict.
pub tables_filled : {s starts facts : List ℕ} → Starts s starts → Facts s facts → (v : Verdict) → TablesFilled s starts facts v
tables_filled r f (Ok t) = (r, f)
tables_filled r f (Err _) = tt
