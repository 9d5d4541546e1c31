-- Stacks in arrays, and what a token does under the closers.
use Rattle.std.specs.Prelude.{ℕ, ◌+◌, ◌≤◌, ◌≡◌, List, [], ◌∷◌, Option, Some, None, MatchOption, length, drop}
use mathlib.Core.List.{reverse_aux}
use Rattle.tokens.specs.Next.{lexeme_of}
use Rattle.tokens.specs.Runs.{word_from}
use Rattle.flat.specs.declared.Turn.{Turn}
use Rattle.flat.specs.Flat.{turn_under, parameter_by}
use Rattle.table.specs.Table.{Tight}

-- A stack in an array: the elements newest first, and behind them the rest of the array.
pub record Stacked (array : List ℕ) (n : ℕ) (l rest : List ℕ) : Type 0 where
  pub holds : array ≡ reverse_aux l rest
  pub high : n ≡ length l

-- A function of the elements, done in the array; and the same with one more element, where the rest has one less.
abbrev pub Restacked : List ℕ → ℕ → (List ℕ → List ℕ) → List ℕ → Type 0
Restacked array n f array' = (l rest : List ℕ) → Stacked array n l rest → Stacked array' n (f l) rest

abbrev pub Pushed : List ℕ → ℕ → (List ℕ → List ℕ) → List ℕ → Type 0
Pushed array n f array' = (l rest : List ℕ) → Stacked array n l rest → Stacked array' (n + 1) (f l) (drop 1 rest)

-- The innermost closer, if there is one; and as the machine has it, as a number.
abbrev pub TopIs : Option ℕ → List ℕ → Type 0
TopIs top cs = MatchOption top (cs ≡ []) (λ c. cs ≡ c ∷ drop 1 cs)

abbrev pub top_number : Option ℕ → ℕ
top_number None = 0
top_number (Some c) = c

-- What a token of a kind does at a point under the closers.
pub record TurnUnder (p : ℕ) (top : Option ℕ) (k : ℕ) (r : Turn) : Type 0 where
  pub is : (cs s : List ℕ) → TopIs top cs → r ≡ turn_under p cs (lexeme_of k s)
  pub tight : Tight k r

-- Where the parameter's name is behind a token.
pub record ParameterIs (text : List ℕ) (kind start deed parameter r : ℕ) : Type 0 where
  pub within : r ≤ length text
  pub spells : word_from (drop r text) ≡ parameter_by deed (lexeme_of kind (drop start text)) (word_from (drop parameter text))

-- The closers, whatever the rest of the array holds.
pub record Closers (array : List ℕ) (n : ℕ) (l : List ℕ) : Type 0 where
  pub rest : List ℕ
  pub stacked : Stacked array n l rest
