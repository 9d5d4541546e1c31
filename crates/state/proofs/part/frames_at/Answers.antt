use native.Mathlib.Omega.{arith}
use Rattle.state.proofs.Seeing.{seen_length, seen_room}
use Rattle.state.proofs.part.frames_at.Goals as goal

pub word-requires : goal.word-requires
word-requires c =
    (seen_room c.requires.seen, omega arith)

pub returns : goal.returns
returns c =
    c.word.ensures.0
