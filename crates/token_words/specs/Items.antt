-- What the passes over a text have left of its tokens, as the items that the rows of a file are read off.
use Rattle.std.specs.Prelude.{ℕ, ◌+◌, ◌-◌, ◌<◌, ◌≤◌, ◌≡◌, List, [], ◌∷◌, map, length, get_or, drop}
use Rattle.words.specs.Word.{WORD}
use Rattle.limits.specs.Limits.{TEXT}
use Rattle.grammar.specs.Tokens.{decimal}
use Rattle.tokens.specs.Runs.{capped, digits_from}
use Rattle.rows.specs.Rows.{Item, row_item}

-- Items with these roles; and with these numbers.
pub record Roled (roles : List ℕ) (es : List Item) : Type 0 where
  pub roles_are : map (λ (e : Item). e.role) es ≡ roles

pub record Labelled (roles values : List ℕ) (es : List Item) : Type 0 where
  pub roled : Roled roles es
  pub values_are : map (λ (e : Item). e.value) es ≡ values

-- What the digits at an offset say.
abbrev pub amount_at : List ℕ → ℕ → ℕ
amount_at text at = capped (decimal (digits_from (drop at text)))

-- The items of tokens with these roles, offsets and numbers.
pub record Amounts (text offsets : List ℕ) (es : List Item) : Type 0 where
  pub amounts_are : map (λ (e : Item). e.amount) es ≡ map (amount_at text) offsets

pub record Described (text roles offsets values : List ℕ) (es : List Item) : Type 0 where
  pub marks : Labelled roles values es
  pub amounts : Amounts text offsets es

-- And these are they, with a number and an offset for each role.
unfoldable pub items_of : List ℕ → List ℕ → List ℕ → List ℕ → List Item
items_of text [] offsets values = []
items_of text (r ∷ roles) offsets values =
    record { role = r; value = get_or values 0 0; amount = amount_at text (get_or offsets 0 0) } ∷ items_of text roles (drop 1 offsets) (drop 1 values)

-- A variable's word, which is at most 2 more than its number, is a word.
pub record Small (values : List ℕ) : Type 0 where
  pub fits : (i : ℕ) → get_or values i 0 + 2 < WORD

-- Every offset is one of the text.
pub record WithinText (text offsets : List ℕ) : Type 0 where
  pub within : (i : ℕ) → get_or offsets i 0 ≤ length text

-- Answers for token i, which is k behind token j: in all items with the same roles, and with the same numbers.
abbrev pub ForRoles : List ℕ → ℕ → (List Item → Type 0) → Type 0
ForRoles roles i P = (es : List Item) → Roled roles es → (j k : ℕ) → j + k ≡ i → P (drop k (drop j es))

abbrev pub ForToken : List ℕ → List ℕ → ℕ → (Item → Type 0) → Type 0
ForToken roles values i P = (es : List Item) → Labelled roles values es → (j k : ℕ) → j + k ≡ i → P (row_item (drop j es) k)

-- No expression reaches behind the last node.
pub record Nested (sizes : List ℕ) : Type 0 where
  pub within : (j : ℕ) → get_or sizes j 0 ≤ length sizes - j

-- What rows are read off: tokens of a text that declares `types` types, each with an offset and a number, and the sizes of nodes.
pub record Readable (text roles offsets values sizes : List ℕ) (types : ℕ) : Type 0 where
  pub small : Small values
  pub few_types : types + 1 < WORD
  pub few_tokens : length roles ≤ TEXT
  pub within_text : WithinText text offsets
  pub nested : Nested sizes
  pub offset_each : length offsets ≡ length roles
  pub value_each : length values ≡ length roles
