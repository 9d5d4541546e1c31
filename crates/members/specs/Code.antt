-- What look-ups are lent beside a Code: a table for the types of variables.
use Rattle.std.specs.Prelude.{ℕ, ◌≡◌, List, length}
use Rattle.slices.specs.Zero.{AllZero}
use Rattle.names.specs.Ranks.{RANKS}

-- The table while no variable is bound.
pub record Blank (table : List ℕ) : Type 0 where
  pub size : length table ≡ RANKS
  pub zeros : AllZero table
