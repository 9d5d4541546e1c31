-- Runs of bytes at the head of a text, and what the code makes of them.
use Rattle.std.specs.Prelude.{ℕ, ◌+◌, ◌*◌, ◌%◌, Bool, true, false, [], ◌∷◌, leb}
use Rattle.grammar.specs.Tokens.{Spelling}
unfoldable pub use Rattle.word_kinds.specs.Runs.{byte_run}
pub use Rattle.word_kinds.specs.Runs.{word_from, digits_from}

-- How many hashes names have, and the hash of a name.
abbrev pub HASHES : ℕ
HASHES = 512

unfoldable pub hash_from : ℕ → Spelling → ℕ
hash_from h [] = h
hash_from h (b ∷ w) = hash_from ((h * 131 + b) % HASHES) w

abbrev pub spelling_hash : Spelling → ℕ
spelling_hash w = hash_from 0 w

-- The first number that no integer has, with a minus or without: every larger one counts as it.
abbrev pub BEYOND : ℕ
BEYOND = 2147483649

abbrev pub capped_by : Bool → ℕ → ℕ
capped_by true n = n
capped_by false n = BEYOND

unfoldable pub capped : ℕ → ℕ
capped n = capped_by (leb n BEYOND) n
