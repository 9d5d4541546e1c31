-- The tables that a call lends to Check, and that it fills.
use Rattle.std.specs.Prelude.{ℕ, ◌≡◌, List, length}
use Rattle.slices.specs.Zero.{AllZero}
use Rattle.std.specs.declared.result.Result.TheVariants.{Ok, Err}
use Rattle.typing.specs.Answers.{Verdict}
use Rattle.subtypes.specs.Tables.{STARTS, Starts}
use Rattle.names.specs.Ranks.{FACTS}
use Rattle.names.specs.Facts.{Facts}

-- A table for the facts about a script, with no fact in it.
pub record FactsLent (facts : List ℕ) : Type 0 where
  pub size : length facts ≡ FACTS
  pub zeros : AllZero facts

-- A table for the starts of a script's runs and for its rows, with nothing in it, and one for its facts.
pub record TablesLent (starts facts : List ℕ) : Type 0 where
  pub runs : length starts ≡ STARTS
  pub zeros : AllZero starts
  pub facts_lent : FactsLent facts

-- The tables after Check: those of an accepted script are filled.
abbrev pub TablesFilled : List ℕ → List ℕ → List ℕ → Verdict → Type 0
TablesFilled s starts facts (Ok t) = Starts s starts × Facts s facts
TablesFilled s starts facts (Err _) = Unit {0}
