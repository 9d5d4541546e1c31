-- What the code of questions 4, 6, 7 and 8 goes by: the table of uses, and the tests of records.
use Rattle.std.specs.Prelude.{ℕ, ◌<◌, min, ◌≡◌, List, [], ◌∷◌, ◌++◌, length, get_or}
use Rattle.limits.specs.Limits.{NODES}
use Rattle.script.specs.declared.Role.{Role}
use Rattle.script.specs.declared.Role.TheVariants.{Unused, Variable, Member, Bound, NewClass, CastType, Expression, Constant, Unknown}
use Rattle.script.specs.Lists.{run, count_in}
use Rattle.script.specs.declared.Section.TheVariants.{Methods as methods}
use Rattle.script.specs.Section.{record_word}
use Rattle.script.specs.Syntax.{Point}

-- The part that a word of this role is.
abbrev pub part_in : Role → ℕ → List Point
part_in Unused w = []
part_in Variable w = []
part_in Member w = []
part_in Bound w = []
part_in NewClass w = []
part_in CastType w = []
part_in Expression w = w ∷ []
part_in Constant w = []
part_in Unknown w = []

-- A table says of each node how often it is in a list of uses, more than two uses counting as two.
pub record Counted (uses : List ℕ) (l : List Point) : Type 0 where
  pub room : length uses ≡ NODES
  pub right : (m : Point) → m < NODES → get_or uses m 0 ≡ min 2 (count_in m l)

-- Some more uses were counted in a table.
abbrev pub Adds : List ℕ → List ℕ → List Point → Type 0
Adds uses after more = (l : List Point) → Counted uses l → Counted after (l ++ more)

-- The body words of the first n methods.
unfoldable pub body_words : List ℕ → ℕ → List Point
body_words s n = run (λ i. record_word s methods i 3) 0 n
