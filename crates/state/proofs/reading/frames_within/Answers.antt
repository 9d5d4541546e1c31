use native.Mathlib.Omega.{arith}
use Rattle.tree.proofs.Walks.{within}
use Rattle.state.proofs.Taking.{entries_many}
use Rattle.state.proofs.reading.frames_within.Goals as goal

pub frames_from-requires : goal.frames_from-requires
frames_from-requires c =
    (omega (arith, c.requires.1.some), omega (arith, c.requires.1.inside, entries_many c.args.block.now), c.requires.0)

pub returns : goal.returns
returns c =
    record { part = λ p. within p (c.requires.1.part p) c.frames_from.ensures }
