-- Words in lists of bytes. Document 01: "All words are unsigned 16-bit, low byte first".
use Rattle.std.specs.Prelude.{ℕ, ◌+◌, ◌*◌, ◌/◌, ◌%◌, List, [], ◌∷◌, get_or}

-- The first number that is no word.
abbrev pub WORD : ℕ
WORD = 65536

-- The word at byte `at`. Past the end of the list every byte counts as 0.
unfoldable pub word_at : List ℕ → ℕ → ℕ
word_at s at = get_or s at 0 + get_or s (at + 1) 0 * 256

-- The bytes of a list of words.
unfoldable pub bytes : List ℕ → List ℕ
bytes [] = []
bytes (w ∷ ws) = w % 256 ∷ w / 256 ∷ bytes ws
