-- The kind of a token.
use Rattle.std.specs.Prelude.{ℕ}
use Rattle.grammar.specs.Tokens.{Lexeme, fixed, name_token, digits_token}

-- Kinds of tokens: a word or sign that the grammar spells out has its number, and behind those come names and digits.
abbrev pub K_NAME : ℕ
K_NAME = 28

abbrev pub K_DIGITS : ℕ
K_DIGITS = 29

unfoldable pub token_kind : Lexeme → ℕ
token_kind (fixed k) = k
token_kind (name_token w) = K_NAME
token_kind (digits_token w) = K_DIGITS
