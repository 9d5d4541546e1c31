-- What stands in a text at the offset of a token.
use Rattle.std.specs.Prelude.{ℕ, ◌≡◌, List, [], drop}
use Rattle.grammar.specs.Tokens.{Spelling, Lexeme, fixed, name_token, digits_token, Token}
use Rattle.tokens.specs.Runs.{word_from, digits_from}

-- The digits of a token.
abbrev pub digits_in : Lexeme → Spelling
digits_in (fixed k) = []
digits_in (name_token y) = []
digits_in (digits_token d) = d

-- A name stands there whole, and digits where the token has some.
pub record Spelt (text : List ℕ) (t : Token) : Type 0 where
  pub name_there : (y : Spelling) → t.lexeme ≡ name_token y → word_from (drop t.offset text) ≡ y
  pub digits_there : digits_from (drop t.offset text) ≡ digits_in t.lexeme
