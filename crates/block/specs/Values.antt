-- A value in a record: VALUE words, one after the other. All else that is said of a value in a block goes by the names of this file.
use Rattle.std.specs.Prelude.{ℕ, ◌+◌, ◌<◌, ◌≡◌, Bool, true, cond, List, [], ◌∷◌, eqb, ltb}
use Rattle.words.specs.Word.{WORD}
use Rattle.words.specs.Integer.{InRange, range_test, integer, low_word, high_word}
use Rattle.script.specs.Lists.{run}
use Rattle.machine.specs.declared.Value.{Value}
use Rattle.machine.specs.declared.Value.TheVariants.{Null as nil, Ref as ref, Int as int}
use Rattle.block.specs.Layout.{VALUE}

-- What a value is, its first word: null, an object, or a number.
abbrev pub NULL : ℕ
NULL = 0

abbrev pub REF : ℕ
REF = 1

abbrev pub INT : ℕ
INT = 2

-- The words of a value: of an object its number, of a number its two words. Words without a meaning are 0, so null is all 0.
abbrev pub value_words : Value → List ℕ
value_words nil = NULL ∷ 0 ∷ 0 ∷ []
value_words (ref o) = REF ∷ o ∷ 0 ∷ []
value_words (int z) = INT ∷ low_word z ∷ high_word z ∷ []

-- The value that the words w of a record say from word j on, as if they were in order: words of no known kind say null.
abbrev pub value_in : (ℕ → ℕ) → ℕ → Value
value_in w j = cond (eqb (w j) REF) (ref (w (j + 1))) (cond (eqb (w j) INT) (int (integer (w (j + 1)) (w (j + 2)))) nil)

-- They are in order if they are the words of the value that they say.
abbrev pub ValueOk : (ℕ → ℕ) → ℕ → Type 0
ValueOk w j = run w j VALUE ≡ value_words (value_in w j)

-- "All words are unsigned 16-bit", and "Int, a signed 32-bit number": a value that its words say. (The words of a number out of the range say another.)
abbrev pub Storable : Value → Type 0
Storable nil = Unit {0}
Storable (ref o) = o < WORD
Storable (int z) = InRange z

-- The test for it.
abbrev pub storable_test : Value → Bool
storable_test nil = true
storable_test (ref o) = ltb o WORD
storable_test (int z) = range_test z
