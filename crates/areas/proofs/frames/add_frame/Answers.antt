use native.Mathlib.Omega.{arith}
use Rattle.areas.proofs.Laws.{frame_added}
use Rattle.areas.proofs.frames.add_frame.Goals as goal

pub returns : goal.returns
returns c p is =
    let count = c.count-n in
    let put_frame = c.put_frame in
    let put_count = c.put_count in
    frame_added _ p is _ _ count.result _ count.ensures.0 (omega (arith, count.ensures.0, c.requires)) put_frame.ensures.block_after put_count.ensures
