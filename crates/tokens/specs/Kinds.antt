-- The kind of the token that a byte begins.
use Rattle.std.specs.Prelude.{ℕ, zero, suc, ◌+◌, Bool, true, false, List, [], ◌∷◌, leb}
use Rattle.grammar.specs.Tokens.{blank_test, digit_test, letter_test}
use Rattle.tokens.specs.Next.{K_NAME, K_DIGITS, token_kind}
use Rattle.word_kinds.specs.Words.{sign_lexeme}

-- A blank begins no token.
abbrev pub BLANK : ℕ
BLANK = 0

-- Is the byte a letter, a digit, a blank? If none of them, it is a sign, or begins no token.
abbrev pub kind_by : Bool → Bool → Bool → ℕ → ℕ
kind_by true digit blank b = K_NAME
kind_by false true blank b = K_DIGITS
kind_by false false true b = BLANK
kind_by false false false b = token_kind (sign_lexeme b)

unfoldable pub byte_kind : ℕ → ℕ
byte_kind b = kind_by (letter_test b) (digit_test b) (blank_test b) b

-- The kinds of n bytes from byte b on, and of all bytes.
unfoldable pub kinds_from : ℕ → ℕ → List ℕ
kinds_from zero b = []
kinds_from (suc n) b = byte_kind b ∷ kinds_from n (b + 1)

unfoldable pub byte_kinds : List ℕ
byte_kinds = kinds_from 256 0

-- Is a byte of this kind or a higher one? From a name's on those are the bytes of words, from that of digits on the digits.
abbrev pub kind_test : ℕ → ℕ → Bool
kind_test least b = leb least (byte_kind b)
