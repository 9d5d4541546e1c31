-- The next token of a text, as the contracts of the code say it.
use Rattle.std.specs.Prelude.{ℕ, ◌+◌, ◌≤◌, ◌<◌, ◌≡◌, false, List, [], ◌∷◌, Option, MatchOption, eqb, length, drop, get_or}
use Rattle.grammar.specs.Tokens.{Lexeme, fixed, name_token, digits_token, TEXT_END, chosen_lexeme, blank_test, Token, token_at, tokens_from, b_nothing}
use Rattle.tokens.specs.declared.Next.{Next}
use Rattle.tokens.specs.Runs.{word_from, digits_from}
pub use Rattle.word_kinds.specs.Kind.{K_NAME, K_DIGITS}
unfoldable pub use Rattle.word_kinds.specs.Kind.{token_kind}

-- How many kinds there are.
abbrev pub KINDS : ℕ
KINDS = 30

-- The token of a kind that stands at the head of a text.
unfoldable pub lexeme_of : ℕ → List ℕ → Lexeme
lexeme_of k s = chosen_lexeme (eqb k K_NAME) (name_token (word_from s)) (chosen_lexeme (eqb k K_DIGITS) (digits_token (digits_from s)) (fixed k))

-- The tokens from offset n of a text on.
abbrev pub tokens_at : List ℕ → ℕ → List Token
tokens_at text n = tokens_from b_nothing n (drop n text)

-- Blanks from `at` to r, and none there.
pub record Skipped (text : List ℕ) (at r : ℕ) : Type 0 where
  pub same : tokens_at text at ≡ tokens_at text r
  pub from : at ≤ r
  pub within : r ≤ length text
  pub blankless : r < length text → blank_test (get_or text r 0) ≡ false

-- The first token that is left, that its kind is this one, and how long names and digits are.
pub record TokenIs (text : List ℕ) (at : ℕ) (r : Next) : Type 0 where
  pub known : r.kind < KINDS
  pub real : r.kind ≡ TEXT_END → ⊥
  pub from : at ≤ r.start
  pub some : r.start < r.end
  pub within : r.end ≤ length text
  pub first : tokens_at text at ≡ token_at r.start (lexeme_of r.kind (drop r.start text)) ∷ tokens_at text r.end
  pub kind_is : token_kind (lexeme_of r.kind (drop r.start text)) ≡ r.kind
  pub name_ends : r.kind ≡ K_NAME → r.start + length (word_from (drop r.start text)) ≡ r.end
  pub digits_end : r.kind ≡ K_DIGITS → r.start + length (digits_from (drop r.start text)) ≡ r.end

-- What stands from `at` on, blanks skipped: a token, or nothing.
abbrev pub NextIs : List ℕ → ℕ → Option Next → Type 0
NextIs text at r = MatchOption r (tokens_at text at ≡ []) (TokenIs text at)
