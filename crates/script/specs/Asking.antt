-- Questions and the place of a no.
use Rattle.std.specs.Prelude.{ℕ, zero, suc, ◌+◌, ◌<◌, ◌≤◌, ◌≡◌, Bool, true, false, cond, List, [], ◌∷◌, ◌⊎◌}
use Rattle.std.proofs.Math.Option.{Option, none, some}
use Rattle.script.specs.declared.Question.{Question}
use Rattle.script.specs.declared.Refusal.{Refusal}
use Rattle.script.specs.declared.Question.TheVariants.{Length, Counts, Places, Interfaces, Owners, Types, Nodes, Names, Joins, Classes}
use Rattle.script.specs.declared.Question.TheVariants.{Variables, Nulls, Members, Fits, Sharing}
use Rattle.script.specs.Section.{Section, count_of, record_at}

-- "A no gives the number"
abbrev pub number_of : Question → ℕ
number_of Length = 1
number_of Counts = 2
number_of Places = 3
number_of Interfaces = 4
number_of Owners = 5
number_of Types = 6
number_of Nodes = 7
number_of Names = 8
number_of Joins = 9
number_of Classes = 10
number_of Variables = 11
number_of Nulls = 12
number_of Members = 13
number_of Fits = 14
number_of Sharing = 15

-- "Questions to a call, in order": how many come before it, the five of the walk standing in one place.
abbrev pub rank_of : Question → ℕ
rank_of Length = 0
rank_of Counts = 1
rank_of Places = 2
rank_of Interfaces = 3
rank_of Owners = 4
rank_of Types = 5
rank_of Nodes = 6
rank_of Names = 7
rank_of Joins = 8
rank_of Classes = 9
rank_of Variables = 10
rank_of Nulls = 10
rank_of Members = 10
rank_of Fits = 10
rank_of Sharing = 10

-- A question with the place of its no, if it gets one.
pub record Asked : Type 0 where
  pub question : Question
  pub no_at : Option ℕ

abbrev pub or_next : Question → Option ℕ → Option Refusal → Option Refusal
or_next q none r = r
or_next q (some place) r = some (record { question = q; place = place })

-- The first question of a list that gets a no.
unfoldable pub first_no : List Asked → Option Refusal
first_no [] = none
first_no (a ∷ l) = let r = first_no l in or_next a.question a.no_at r

-- "0 for questions 1 to 3, 5"
abbrev pub at_zero : Bool → Option ℕ
at_zero true = none
at_zero false = some 0

-- The first of k records from i on that fails a test.
unfoldable pub first_out_of : (ℕ → Bool) → ℕ → ℕ → Option ℕ
first_out_of test i zero = none
first_out_of test i (suc k) = let r = first_out_of test (i + 1) k in cond (test i) r (some i)

abbrev pub place_or : List ℕ → Section → Option ℕ → Option ℕ → Option ℕ
place_or s k none r = r
place_or s k (some i) r = some (record_at s k i)

-- "the place is the offset of the lowest faulty record": a question names the sections that it asks, in the order of their bodies, each with a test.
unfoldable pub lowest_in : List ℕ → List (Section × (ℕ → Bool)) → Option ℕ
lowest_in s [] = none
lowest_in s (a ∷ l) = let r = lowest_in s l in place_or s a.0 (first_out_of a.1 0 (count_of s a.0)) r

-- A test that says whether a statement holds.
pub data Decides (P : Type 0) : Bool → Type 0 where
  holds : P → Decides P true
  fails : (P → ⊥) → Decides P false

-- What a question asks of records, as a plain statement: the sections that it asks, each with what it asks of a record.
abbrev pub Asks : Type 1
Asks = List (Section × (ℕ → Type 0))

-- It holds of each record that is asked.
abbrev pub Each : List ℕ → Asks → Type 0
Each s [] = Unit {0}
Each s (a ∷ l) = ((i : ℕ) → i < count_of s a.0 → a.1 i) × Each s l

-- A record of section k of which it does not hold, and its place.
pub record FaultIn (s : List ℕ) (k : Section) (Good : ℕ → Type 0) (place : ℕ) : Type 0 where
  pub index : ℕ
  pub within : index < count_of s k
  pub there : record_at s k index ≡ place
  pub bad : Good index → ⊥

abbrev pub FaultAt : List ℕ → Asks → ℕ → Type 0
FaultAt s [] place = ⊥
FaultAt s (a ∷ l) place = FaultIn s a.0 a.1 place ⊎ FaultAt s l place

-- A no to it has "the offset of the lowest faulty record" as its place.
pub record LowestNo (s : List ℕ) (l : Asks) (place : ℕ) : Type 0 where
  pub fault : FaultAt s l place
  pub lowest : (other : ℕ) → FaultAt s l other → place ≤ other

-- What the answer to it says: a yes, or a no with this place.
pub data Lowest (s : List ℕ) (l : Asks) : Option ℕ → Type 0 where
  all_good : Each s l → Lowest s l none
  lowest_at : {place : ℕ} → LowestNo s l place → Lowest s l (some place)
