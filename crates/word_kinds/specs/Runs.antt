-- Runs of bytes at the head of a text.
use Rattle.std.specs.Prelude.{ℕ, Bool, true, false, List, [], ◌∷◌}
use Rattle.grammar.specs.Tokens.{Spelling, word_byte_test, digit_test}

abbrev pub run_with : Bool → ℕ → Spelling → Spelling
run_with true b w = b ∷ w
run_with false b w = []

-- The longest run of bytes at the head that pass a test.
unfoldable pub byte_run : (ℕ → Bool) → List ℕ → Spelling
byte_run test [] = []
byte_run test (b ∷ s) = run_with (test b) b (byte_run test s)

-- The word, "letters, digits and underscore", that goes on at the head; and the digits.
abbrev pub word_from : List ℕ → Spelling
word_from s = byte_run word_byte_test s

abbrev pub digits_from : List ℕ → Spelling
digits_from s = byte_run digit_test s
