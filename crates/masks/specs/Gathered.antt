-- What a node's mask is gathered from, as the code has it.
use Rattle.std.specs.Prelude.{ℕ}
use Rattle.masks.specs.declared.masks.Gathering.{Gathering}
use Rattle.masks.specs.Free.{FreeMask, Ahead}

-- It has what the mask of node n is made from.
abbrev pub Ready : Gathering → ℕ → Type 0
Ready g n = Ahead g.script.bytes.now g.facts.now g.masks.now g.start n

-- The mask of node n.
abbrev pub MaskIs : Gathering → ℕ → ℕ → Type 0
MaskIs g n m = FreeMask g.script.bytes.now g.facts.now g.start n m
