-- What a word is: its first and last byte lead to at most one that the grammar spells out, and then all of it is compared.
use Rattle.std.specs.Prelude.{ℕ, ◌+◌, ◌-◌, ◌*◌, ◌%◌, ◌<◌, ◌≡◌, Bool, true, false, List, [], ◌∷◌, eqb, length, get_or, drop}
use Rattle.grammar.specs.Tokens.{Spelling, Lexeme, name_token, fixed, STRAY, Fixed, fixed_words, fixed_signs, fixed_or, letter_test}
use Rattle.word_kinds.specs.declared.Spelled.{Spelled}
use Rattle.word_kinds.specs.Kind.{K_NAME}
use Rattle.word_kinds.specs.Runs.{word_from}

-- A word: one that the grammar spells out, or a name. And any other byte: a sign, or a byte that begins no token.
abbrev pub word_lexeme : Spelling → Lexeme
word_lexeme w = fixed_or (name_token w) fixed_words w

abbrev pub sign_lexeme : ℕ → Lexeme
sign_lexeme b = fixed_or (fixed STRAY) fixed_signs (b ∷ [])

-- A word stands from `start` to `end`.
pub record WordAt (text : List ℕ) (start end : ℕ) : Type 0 where
  pub inside : start < length text
  pub letter : letter_test (get_or text start 0) ≡ true
  pub ends : end ≡ start + length (word_from (drop start text))

-- A small number of a word, by its first and its last byte: no two words that the grammar spells out share it.
abbrev pub WORD_SLOTS : ℕ
WORD_SLOTS = 32

abbrev pub word_slot : Spelling → ℕ
word_slot w = (get_or w 0 0 + 2 * get_or w (length w - 1) 0) % WORD_SLOTS

-- The word of a list that has this slot; if none has, no word, with a name's number.
abbrev pub chosen_fixed : Bool → Fixed → Fixed → Fixed
chosen_fixed true k l = k
chosen_fixed false k l = l

unfoldable pub fixed_at : List Fixed → ℕ → Fixed
fixed_at [] slot = record { token = K_NAME; letters = [] }
fixed_at (k ∷ ks) slot = chosen_fixed (eqb slot (word_slot k.letters)) k (fixed_at ks slot)

-- What the code knows of it.
pub record SpelledIs (k : Fixed) (r : Spelled) : Type 0 where
  pub letters_are : r.0.now ≡ k.letters
  pub kind_is : r.1 ≡ k.token
