use native.Mathlib.Omega.{arith}
use Rattle.areas.proofs.Laws.{frames_removed}
use Rattle.areas.proofs.frames.remove_frames.Goals as goal

pub returns : goal.returns
returns c p is =
    let count = c.count-n in
    let shift-down = c.shift_down in
    let cut-frames = c.cut_frames in
    frames_removed p _ _ _ is count.result count.ensures.0 c.args.at c.args.k (omega (arith, count.ensures.0)) shift-down.ensures cut-frames.ensures
