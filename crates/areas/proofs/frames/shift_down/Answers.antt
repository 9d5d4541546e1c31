use native.Mathlib.Omega.{arith}
use Rattle.areas.proofs.FrameBytes.{moved_down}
use Rattle.areas.proofs.frames.shift_down.Goals as goal

pub returns : goal.returns
returns c p is l =
    moved_down c.args.block.now p is c.args.at c.args.n _ _ l c.requires.1 (omega arith) c.frame_byte-from.ensures c.frame_byte-end.ensures c.args.k _ c.requires.0 c.move_down.ensures
