-- How many trees are still to come, along the positions of a block.
use Rattle.std.specs.Prelude.{ℕ, ◌+◌, ◌-◌, ◌≡◌, ◌≢◌}
use Rattle.block.specs.Layout.{JOIN}

-- How many trees are to come after a position of this kind, if `trees` are to come with it.
pub data After (kind trees : ℕ) : ℕ → Type 0 where
  of_join : kind ≡ JOIN → After kind trees (trees + 1)
  of_thread : kind ≢ JOIN → After kind trees (trees - 1)
