use mathlib.Core.Path.{◌∙◌}
use Rattle.areas.proofs.FrameBytes.{cut_off}
use Rattle.areas.proofs.frames.cut_frames.Goals as goal

pub returns : goal.returns
returns c p is l =
    c.put_count.ensures
    ∙ cut_off c.args.block.now p is c.args.m c.args.n _ _ l c.requires.1 c.requires.0 c.frame_byte-from.ensures c.frame_byte-end.ensures _ c.clear.ensures
