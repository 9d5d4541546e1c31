-- A name of a text, as the contracts of the code say it.
use Rattle.std.specs.Prelude.{ℕ, ◌<◌, ◌≡◌, List, length, drop}
use Rattle.tokens.specs.declared.Name.{Name}
use Rattle.tokens.specs.Runs.{word_from, HASHES, spelling_hash}

-- The hash and the size of the word at an offset.
pub record NameIs (text : List ℕ) (at : ℕ) (r : Name) : Type 0 where
  pub hash_is : r.hash ≡ spelling_hash (word_from (drop at text))
  pub hash_low : r.hash < HASHES
  pub size_is : r.size ≡ length (word_from (drop at text))
