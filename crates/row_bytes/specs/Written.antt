-- Words written one after another.
use Rattle.std.specs.Prelude.{ℕ, ◌+◌, ◌*◌, ◌≡◌, List, ◌++◌, length, take, drop}
use Rattle.words.specs.Word.{bytes}

-- The bytes with these words from byte `at` on.
unfoldable pub written : List ℕ → ℕ → List ℕ → List ℕ
written s at ws = take at s ++ (bytes ws ++ drop (at + 2 * length ws) s)

-- Words were written at byte `at`, and end at byte r.
pub record Appended (s : List ℕ) (at : ℕ) (t : List ℕ) (r : ℕ) (ws : List ℕ) : Type 0 where
  pub file_is : t ≡ written s at ws
  pub end_is : r ≡ at + 2 * length ws
