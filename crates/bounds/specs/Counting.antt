-- Counting records and asking for the range of integers, over the roles and offsets of the n tokens of a text.
use Rattle.std.specs.Prelude.{ℕ, ◌+◌, ◌≤◌, ◌<◌, ◌≡◌, Bool, ◌&&◌, List, [], ◌∷◌, leb, ltb, length, get_or, drop}
use Rattle.std.specs.Prelude.{Option, Some, None, Result, Ok, Err}
use Rattle.std.proofs.Math.Option.{none, some}
use Rattle.limits.specs.Limits.{INTERFACES, SIGNATURES, CLASSES, FIELDS, METHODS, NODES}
use Rattle.script.specs.declared.Section.{Section}
use Rattle.script.specs.declared.Section.TheVariants.{Interfaces as interfaces, Classes as classes}
use Rattle.script.specs.Section.{entry_of, most_of}
use Rattle.grammar.specs.Tokens.{Lexeme, fixed, TEXT_END}
use Rattle.grammar.specs.Roles.{PLAIN, R_INTEGER, R_NEGATIVE}
use Rattle.grammar.specs.Files.{spelling_of}
use Rattle.grammar.specs.Faults.{Marked, limit_fault, begun_in}
use Rattle.tokens.specs.Runs.{digits_from}
use Rattle.bounds.specs.declared.counts.Counts.{Counts}

-- The entries of a file's contents, and "Most records" of each.
abbrev pub SECTIONS : ℕ
SECTIONS = 6

unfoldable pub mosts : List ℕ
mosts = INTERFACES ∷ SIGNATURES ∷ CLASSES ∷ FIELDS ∷ METHODS ∷ NODES ∷ []

-- Is a record of the section of this entry "a record too many"?
unfoldable pub full_test : List ℕ → ℕ → Bool
full_test counts e = ltb e SECTIONS && leb (get_or mosts e 0) (get_or counts e 0)

-- Token i of a list, where a token past the end is a plain one.
abbrev pub lexeme_at : List Lexeme → ℕ → Lexeme
lexeme_at ls i = get_or ls i (fixed TEXT_END)

abbrev pub marked_at : List Marked → ℕ → Marked
marked_at ms i = get_or ms i (record { role = PLAIN; marks = fixed TEXT_END })

-- The n tokens, of which integers are spelled in the text where their offsets say.
pub record IntegersSpelt (text roles offsets : List ℕ) (n : ℕ) (ls : List Lexeme) : Type 0 where
  pub all : length ls ≡ n
  pub integers : (i : ℕ) → i < n → get_or roles i 0 ≡ R_INTEGER → spelling_of (lexeme_at ls i) ≡ digits_from (drop (get_or offsets i 0) text)
  pub negatives :
      (i : ℕ)
      → i + 1 < n
      → get_or roles i 0 ≡ R_NEGATIVE
      → spelling_of (lexeme_at ls (i + 1)) ≡ digits_from (drop (get_or offsets (i + 1) 0) text)

-- The count of a section.
abbrev pub counted_of : Counts → Section → ℕ
counted_of c k = get_or c.entries (entry_of k) 0

-- How many types a text with so many records declares.
abbrev pub types_of : Counts → ℕ
types_of c = counted_of c interfaces + counted_of c classes

-- The entry of the section that a token begins a record of, or the one behind all.
abbrev pub entry_begun : Option Section → ℕ
entry_begun (Some k) = entry_of k
entry_begun None = SECTIONS

-- What is answered for tokens: how many records begin in each section; or the first token at fault.
pub record AllCounted (ms : List Marked) (c : Counts) : Type 0 where
  pub faultless : limit_fault ms ≡ none
  pub counts : (k : Section) → (counted_of c k ≡ begun_in k ms) × (counted_of c k ≤ most_of k)

pub record FaultAt (ms : List Marked) (i : ℕ) : Type 0 where
  pub among : i < length ms
  pub faulty : limit_fault ms ≡ some i

abbrev pub CountedAs : List Marked → Result Counts ℕ → Type 0
CountedAs ms (Ok c) = AllCounted ms c
CountedAs ms (Err i) = FaultAt ms i
