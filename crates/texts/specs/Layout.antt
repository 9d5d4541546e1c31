-- What the layout questions ask of the file of a derivation.
use Rattle.std.specs.Prelude.{ℕ, ◌≤◌, ◌≡◌, true, List, [], get_or}
use Rattle.std.proofs.Math.Option.{none}
use Rattle.script.specs.declared.Question.{Question}
use Rattle.script.specs.declared.Question.TheVariants.{Interfaces, Types, Names}
use Rattle.script.specs.declared.Section.{Section}
use Rattle.script.specs.Section.{most_of, entry_of}
use Rattle.script.specs.Asking.{lowest_in}
use Rattle.script.specs.Questions.{length_test, counts_test, places_test, owners_test, nodes_test}
use Rattle.grammar.specs.Grammar.{Derivation}
use Rattle.grammar.specs.Files.{Numbering, numbering_of, SectionBody, section_bodies}

-- The body of a section in the file of a derivation.
abbrev pub body_of : Numbering → Derivation → Section → SectionBody
body_of k d section = get_or (section_bodies k d) (entry_of section) (record { records = 0; words = [] })

-- No section has more records than "Most records" says.
abbrev pub KeepsLimits : Derivation → Type 0
KeepsLimits d = (section : Section) → (body_of (numbering_of d) d section).records ≤ most_of section

-- A yes to questions 1, 2, 3, 5 and 7 as computed answers. (`FileStands` has the plain statements.)
pub record LayoutAnswers (s : List ℕ) : Type 0 where
  pub length_yes : length_test s ≡ true
  pub counts_yes : counts_test s ≡ true
  pub places_yes : places_test s ≡ true
  pub owners_yes : owners_test s ≡ true
  pub nodes_yes : lowest_in s (nodes_test s) ≡ none

-- What a text can still be refused for by the layout: questions 4, 6 and 8.
pub data LeftOpen : Question → Type 0 where
  interfaces_left : LeftOpen Interfaces
  types_left : LeftOpen Types
  names_left : LeftOpen Names
