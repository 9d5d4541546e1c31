-- What the code of look-ups is lent and finds: runs of records, meanings of a method name, and records at fault.
use Rattle.std.specs.Prelude.{ℕ, suc, ◌+◌, ◌<◌, ◌≤◌, ◌≡◌, Bool, true, false, cond, List, ltb, length, get_or}
use Rattle.std.proofs.Math.Option.{Option, none, some}
use Rattle.std.specs.declared.option.Option.{Option as CodeOption}
use Rattle.std.specs.declared.option.Option.TheVariants.{Some, None}
use Rattle.limits.specs.Limits.{INTERFACES}
use Rattle.script.specs.declared.Section.{Section}
use Rattle.script.specs.declared.Section.TheVariants.{Interfaces as interfaces, Signatures as signatures}
use Rattle.script.specs.Lists.{sum_below}
use Rattle.script.specs.Section.{count_of, record_at, record_word}
use Rattle.script.specs.Syntax.{Signature, Interface, lists, extends, Program}
use Rattle.script.specs.Reading.{signature_at, interface_at, program_of}
use Rattle.script.specs.Asking.{first_out_of}
use Rattle.sections.specs.Laid.{own_of, other_name}
use Rattle.members.specs.declared.Types.{Types}
use Rattle.typing.specs.Members.{meaning}
use Rattle.typing.specs.Check.{agree_test}

-- From base on a table holds where the runs of the first n owners of records of section k begin, and elsewhere what another table holds.
pub record RunsTo (s : List ℕ) (k : Section) (base n : ℕ) (old table : List ℕ) : Type 0 where
  pub starts : (o : ℕ) → o < n → get_or table (base + o) 0 ≡ sum_below (own_of s k) o
  pub before : (i : ℕ) → i < base → get_or table i 0 ≡ get_or old i 0
  pub after : (i : ℕ) → base + n ≤ i → get_or table i 0 ≡ get_or old i 0

-- The first record of owner o's run in section k that has the name x.
abbrev pub own_named : List ℕ → Section → ℕ → ℕ → Option ℕ
own_named s k o x = first_out_of (other_name s k x) (sum_below (own_of s k) o) (own_of s k o)

-- What a method look-up finds, as the code says it.
abbrev pub member_of : Option Signature → CodeOption Types
member_of none = None
member_of (some g) = Some (record { param = g.param; result = g.result })

-- The types of the signature or method of record i.
abbrev pub types_in : List ℕ → Section → ℕ → Types
types_in s k i = record { param = record_word s k i 1; result = record_word s k i 2 }

-- A word for what the method name m means in the interface of record i: 0 for nothing, or 1 more than the index of the signature that is its first meaning.
pub data MeaningIs (s : List ℕ) (m i : ℕ) : ℕ → Type 0 where
  no_meaning : meaning (program_of s) m (suc i) ≡ none → MeaningIs s m i 0
  meaning_at : {j : ℕ} → j < count_of s signatures → meaning (program_of s) m (suc i) ≡ some (signature_at s j) → MeaningIs s m i (suc j)

-- A table of these words, filled for the first n interfaces.
pub record Meanings (s : List ℕ) (m n : ℕ) (table : List ℕ) : Type 0 where
  pub size : length table ≡ INTERFACES
  pub holds : (i : ℕ) → i < n → MeaningIs s m i (get_or table i 0)

-- A table of what some method name means in every interface.
pub record NameTable (s table : List ℕ) : Type 0 where
  pub name : ℕ
  pub meanings : Meanings s name (count_of s interfaces) table

-- Question 9 of one interface, for one method name.
abbrev pub join_of : Program → ℕ → Interface → Bool
join_of p m (lists gs) = true
join_of p m (extends a b) = agree_test (meaning p m a) (meaning p m b)

abbrev pub join_by : List ℕ → ℕ → ℕ → Bool
join_by s m i = join_of (program_of s) m (interface_at s i)

-- Of the first n records r is the first that fails a test, or r is n and none does.
pub record FirstFault (test : ℕ → Bool) (n r : ℕ) : Type 0 where
  pub within : r ≤ n
  pub passed : (i : ℕ) → i < r → test i ≡ true
  pub fault : r < n → test r ≡ false

-- The same, of a test for each of some names, one of which is enough.
pub record LowestFault (test : ℕ → ℕ → Bool) (names n r : ℕ) : Type 0 where
  pub within : r ≤ n
  pub passed : (k i : ℕ) → k < names → i < r → test k i ≡ true
  pub fault : r < n → (k : ℕ) × (k < names) × (test k r ≡ false)

-- The place of a record, if the section has it.
abbrev pub place_in : List ℕ → Section → ℕ → Option ℕ
place_in s k i = cond (ltb i (count_of s k)) (some (record_at s k i)) none
