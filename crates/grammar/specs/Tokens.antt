-- Tokens. Request 4: "Names are letters, digits and underscore, no digit first and no word the grammar spells out; bytes 9, 10, 13 and 32 only separate
-- tokens, each the longest there".
use Rattle.std.specs.Prelude.{ℕ, ◌+◌, ◌*◌, ◌-◌, ◌≡◌, Bool, true, false, not, ◌&&◌, ◌||◌, List, [], ◌∷◌, ◌++◌, eqb, leb, length}

-- The bytes of a name or of an integer.
abbrev pub Spelling : Type 0
Spelling = List ℕ

-- A token as the grammar sees it: a word or a sign that it spells out, by number; a name; digits.
pub data Lexeme : Type 0 where
  fixed : ℕ → Lexeme
  name_token : Spelling → Lexeme
  digits_token : Spelling → Lexeme

-- What `fixed` stands for. The text's end counts as a token behind the last one, and a byte that begins no token as a token that fits nowhere.
abbrev pub TEXT_END : ℕ
TEXT_END = 0

abbrev pub STRAY : ℕ
STRAY = 1

abbrev pub W_INTERFACE : ℕ
W_INTERFACE = 2

abbrev pub W_EXTENDS : ℕ
W_EXTENDS = 3

abbrev pub W_CLASS : ℕ
W_CLASS = 4

abbrev pub W_IMPLEMENTS : ℕ
W_IMPLEMENTS = 5

abbrev pub W_DEF : ℕ
W_DEF = 6

abbrev pub W_LET : ℕ
W_LET = 7

abbrev pub W_IN : ℕ
W_IN = 8

abbrev pub W_NEW : ℕ
W_NEW = 9

abbrev pub W_FINISH : ℕ
W_FINISH = 10

abbrev pub W_ASYNC : ℕ
W_ASYNC = 11

abbrev pub W_LOCK : ℕ
W_LOCK = 12

abbrev pub W_NULL : ℕ
W_NULL = 13

abbrev pub W_UNIT : ℕ
W_UNIT = 14

abbrev pub W_INT : ℕ
W_INT = 15

abbrev pub W_THIS : ℕ
W_THIS = 16

abbrev pub S_BRACE : ℕ
S_BRACE = 17

abbrev pub S_UNBRACE : ℕ
S_UNBRACE = 18

abbrev pub S_OPEN : ℕ
S_OPEN = 19

abbrev pub S_CLOSE : ℕ
S_CLOSE = 20

abbrev pub S_COLON : ℕ
S_COLON = 21

abbrev pub S_COMMA : ℕ
S_COMMA = 22

abbrev pub S_DOT : ℕ
S_DOT = 23

abbrev pub S_EQUALS : ℕ
S_EQUALS = 24

abbrev pub S_SEMICOLON : ℕ
S_SEMICOLON = 25

abbrev pub S_PLUS : ℕ
S_PLUS = 26

abbrev pub S_MINUS : ℕ
S_MINUS = 27

-- A word or sign with its number.
pub record Fixed : Type 0 where
  pub token : ℕ
  pub letters : Spelling

abbrev fixed_as : ℕ → Spelling → Fixed
fixed_as k w = record { token = k; letters = w }

-- "no word the grammar spells out": interface, extends, class, implements, def, let, in, new, finish, async, lock, null, Unit, Int, this.
unfoldable pub fixed_words : List Fixed
fixed_words =
    fixed_as W_INTERFACE (105 ∷ 110 ∷ 116 ∷ 101 ∷ 114 ∷ 102 ∷ 97 ∷ 99 ∷ 101 ∷ []) ∷
    fixed_as W_EXTENDS (101 ∷ 120 ∷ 116 ∷ 101 ∷ 110 ∷ 100 ∷ 115 ∷ []) ∷
    fixed_as W_CLASS (99 ∷ 108 ∷ 97 ∷ 115 ∷ 115 ∷ []) ∷
    fixed_as W_IMPLEMENTS (105 ∷ 109 ∷ 112 ∷ 108 ∷ 101 ∷ 109 ∷ 101 ∷ 110 ∷ 116 ∷ 115 ∷ []) ∷
    fixed_as W_DEF (100 ∷ 101 ∷ 102 ∷ []) ∷
    fixed_as W_LET (108 ∷ 101 ∷ 116 ∷ []) ∷
    fixed_as W_IN (105 ∷ 110 ∷ []) ∷
    fixed_as W_NEW (110 ∷ 101 ∷ 119 ∷ []) ∷
    fixed_as W_FINISH (102 ∷ 105 ∷ 110 ∷ 105 ∷ 115 ∷ 104 ∷ []) ∷
    fixed_as W_ASYNC (97 ∷ 115 ∷ 121 ∷ 110 ∷ 99 ∷ []) ∷
    fixed_as W_LOCK (108 ∷ 111 ∷ 99 ∷ 107 ∷ []) ∷
    fixed_as W_NULL (110 ∷ 117 ∷ 108 ∷ 108 ∷ []) ∷
    fixed_as W_UNIT (85 ∷ 110 ∷ 105 ∷ 116 ∷ []) ∷
    fixed_as W_INT (73 ∷ 110 ∷ 116 ∷ []) ∷
    fixed_as W_THIS (116 ∷ 104 ∷ 105 ∷ 115 ∷ []) ∷
    []

-- The signs of Figure 2, of sums and of integers: { } ( ) : , . = ; + -
unfoldable pub fixed_signs : List Fixed
fixed_signs =
    fixed_as S_BRACE (123 ∷ []) ∷
    fixed_as S_UNBRACE (125 ∷ []) ∷
    fixed_as S_OPEN (40 ∷ []) ∷
    fixed_as S_CLOSE (41 ∷ []) ∷
    fixed_as S_COLON (58 ∷ []) ∷
    fixed_as S_COMMA (44 ∷ []) ∷
    fixed_as S_DOT (46 ∷ []) ∷
    fixed_as S_EQUALS (61 ∷ []) ∷
    fixed_as S_SEMICOLON (59 ∷ []) ∷
    fixed_as S_PLUS (43 ∷ []) ∷
    fixed_as S_MINUS (45 ∷ []) ∷
    []

-- Are two spellings the same?
unfoldable pub same_spelling : Spelling → Spelling → Bool
same_spelling [] [] = true
same_spelling [] (c ∷ w) = false
same_spelling (b ∷ v) [] = false
same_spelling (b ∷ v) (c ∷ w) = eqb b c && same_spelling v w

abbrev pub chosen_lexeme : Bool → Lexeme → Lexeme → Lexeme
chosen_lexeme true l m = l
chosen_lexeme false l m = m

-- The word or sign of a list that has this spelling, and what it is if none has.
unfoldable pub fixed_or : Lexeme → List Fixed → Spelling → Lexeme
fixed_or l [] w = l
fixed_or l (k ∷ ks) w = chosen_lexeme (same_spelling k.letters w) (fixed k.token) (fixed_or l ks w)

-- "bytes 9, 10, 13 and 32 only separate tokens"
abbrev pub blank_test : ℕ → Bool
blank_test b = eqb b 9 || (eqb b 10 || (eqb b 13 || eqb b 32))

-- 0 to 9
abbrev pub digit_test : ℕ → Bool
digit_test b = leb 48 b && leb b 57

-- A to Z, a to z and _: what a name may begin with, "letters, digits and underscore, no digit first"
abbrev pub letter_test : ℕ → Bool
letter_test b = (leb 65 b && leb b 90) || ((leb 97 b && leb b 122) || eqb b 95)

abbrev pub word_byte_test : ℕ → Bool
word_byte_test b = letter_test b || digit_test b

pub data All (test : ℕ → Bool) : Spelling → Type 0 where
  all_none : All test []
  all_more : {b : ℕ} {w : Spelling} → test b ≡ true → All test w → All test (b ∷ w)

-- The token that some bytes are: a word, digits, a sign, or a byte that begins no token and is no blank.
pub data Spells : Lexeme → Spelling → Type 0 where
  spells_word : {b : ℕ} {w : Spelling} → letter_test b ≡ true → All word_byte_test w → Spells (fixed_or (name_token (b ∷ w)) fixed_words (b ∷ w)) (b ∷ w)
  spells_digits : {b : ℕ} {w : Spelling} → digit_test b ≡ true → All digit_test w → Spells (digits_token (b ∷ w)) (b ∷ w)
  spells_sign : {b : ℕ} → not (word_byte_test b || blank_test b) ≡ true → Spells (fixed_or (fixed STRAY) fixed_signs (b ∷ [])) (b ∷ [])

-- "each the longest there": no token of the text s goes on behind w.
abbrev pub Longest : Spelling → List ℕ → Type 0
Longest w s = (l : Lexeme) (v u : Spelling) → s ≡ v ++ u → Spells l (w ++ v) → v ≡ []

-- A token with the offset of its first byte.
pub record Token : Type 0 where
  pub lexeme : Lexeme
  pub offset : ℕ

abbrev pub token_at : ℕ → Lexeme → Token
token_at n l = record { lexeme = l; offset = n }

-- The tokens of a text whose first byte has offset n.
pub data Splits : ℕ → List ℕ → List Token → Type 0 where
  splits_end : {n : ℕ} → Splits n [] []
  splits_blank : {n b : ℕ} {s : List ℕ} {ts : List Token} → blank_test b ≡ true → Splits (n + 1) s ts → Splits n (b ∷ s) ts
  splits_token :
      {n : ℕ} {r s : List ℕ} {ts : List Token} {l : Lexeme} (w : Spelling)
      → r ≡ w ++ s
      → Spells l w
      → Longest w s
      → Splits (n + length w) s ts
      → Splits n r (token_at n l ∷ ts)

-- The same, computed a byte at a time. What has been read of the token at hand: nothing, a word or digits, with its offset.
pub data Begun : Type 0 where
  b_nothing : Begun
  b_word b_digits : ℕ → Spelling → Begun

abbrev pub ended_token : Begun → List Token
ended_token b_nothing = []
ended_token (b_word at w) = token_at at (fixed_or (name_token w) fixed_words w) ∷ []
ended_token (b_digits at w) = token_at at (digits_token w) ∷ []

-- Does byte b go on with it?
abbrev pub continues : Begun → ℕ → Bool
continues b_nothing b = false
continues (b_word at w) b = word_byte_test b
continues (b_digits at w) b = digit_test b

abbrev pub longer : Begun → ℕ → Begun
longer b_nothing b = b_nothing
longer (b_word at w) b = b_word at (w ++ (b ∷ []))
longer (b_digits at w) b = b_digits at (w ++ (b ∷ []))

-- What byte b at offset n begins: is it a letter, a digit, a blank?
abbrev pub begun_by : Bool → Bool → ℕ → ℕ → Begun
begun_by true d b n = b_word n (b ∷ [])
begun_by false true b n = b_digits n (b ∷ [])
begun_by false false b n = b_nothing

abbrev pub sign_by : Bool → ℕ → ℕ → List Token
sign_by true b n = []
sign_by false b n = token_at n (fixed_or (fixed STRAY) fixed_signs (b ∷ [])) ∷ []

abbrev pub chosen_tokens : Bool → List Token → List Token → List Token
chosen_tokens true a b = a
chosen_tokens false a b = b

unfoldable pub tokens_from : Begun → ℕ → List ℕ → List Token
tokens_from g n [] = ended_token g
tokens_from g n (b ∷ s) =
    chosen_tokens (continues g b) (tokens_from (longer g b) (n + 1) s)
    (ended_token g ++
    (sign_by (word_byte_test b || blank_test b) b n ++
    tokens_from (begun_by (letter_test b) (digit_test b) b n) (n + 1) s))

abbrev pub tokens_of : List ℕ → List Token
tokens_of text = tokens_from b_nothing 0 text

-- What goes on in digits, and in a word.
abbrev pub run_test : Bool → ℕ → Bool
run_test true b = digit_test b
run_test false b = word_byte_test b

-- The number that digits say, the first ones being worth n so far.
unfoldable pub decimal_from : ℕ → Spelling → ℕ
decimal_from n [] = n
decimal_from n (b ∷ d) = decimal_from (n * 10 + (b - 48)) d

abbrev pub decimal : Spelling → ℕ
decimal d = decimal_from 0 d
