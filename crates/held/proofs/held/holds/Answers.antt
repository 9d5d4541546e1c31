use native.Mathlib.Omega.{arith}
use Rattle.block.specs.declared.Area.TheVariants.{Positions}
use Rattle.state.proofs.Seeing.{seen_length, seen_few, seen_inside, seen_room}
use Rattle.held.proofs.Locks.{sight_frames, held}
use Rattle.held.proofs.held.holds.Goals as goal

pub leftmost_from-first-requires : goal.leftmost_from-first-requires
leftmost_from-first-requires c =
    (omega (arith, seen_inside c.requires.seen), seen_few c.requires.seen Positions)

pub frames_before-from-requires : goal.frames_before-from-requires
frames_before-from-requires c =
    (omega (arith, seen_inside c.requires.seen, c.leftmost_from-first.ensures.inside), seen_few c.requires.seen Positions)

pub overflow_add-i : goal.overflow_add-i
overflow_add-i c =
    omega (arith, seen_room c.requires.seen)

pub frames_before-to-requires : goal.frames_before-to-requires
frames_before-to-requires c =
    (omega (arith, seen_inside c.requires.seen), seen_few c.requires.seen Positions)

pub lock_within-requires : goal.lock_within-requires
lock_within-requires c =
    omega (arith, sight_frames c.requires, c.frames_before-to.ensures)

pub returns : goal.returns
returns c =
    held _ _ _ _ _ _ _ c.leftmost_from-first.ensures c.frames_before-from.ensures c.frames_before-to.ensures c.lock_within.ensures
