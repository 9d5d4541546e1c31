-- A word put into bytes, as the contracts of the code say it.
use Rattle.std.specs.Prelude.{ℕ, ◌+◌, ◌/◌, ◌%◌, List, set}

-- The bytes with the word `v` at byte `at`.
unfoldable pub put_word : List ℕ → ℕ → ℕ → List ℕ
put_word s at v = set (set s at (v % 256)) (at + 1) (v / 256)
