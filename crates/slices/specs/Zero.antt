-- Bytes or words that are all 0, as the contracts of the code say it.
use Rattle.std.specs.Prelude.{ℕ, ◌≡◌, List, get_or}

-- Every element is 0. Past the end of the list every one counts as 0.
pub record AllZero (s : List ℕ) : Type 0 where
  pub zero : (k : ℕ) → get_or s k 0 ≡ 0
