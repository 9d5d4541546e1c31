use native.Mathlib.Omega.{arith}
use Rattle.areas.proofs.Laws.{frame_inserted}
use Rattle.areas.proofs.frames.insert_frame.Goals as goal

pub returns : goal.returns
returns c p is =
    let count = c.count-n in
    let add-frame = c.add_frame in
    let shift-up = c.shift_up in
    let put_frame = c.put_frame in
    frame_inserted p _ _ _ is count.result count.ensures.0 _ c.args.at c.args.f (omega (arith, count.ensures.0)) add-frame.ensures shift-up.ensures put_frame.ensures.block_after_2
