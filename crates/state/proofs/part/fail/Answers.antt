use native.Mathlib.Omega.{arith}
use Rattle.block.specs.declared.Area.TheVariants.{Positions, Frames}
use Rattle.state.proofs.Seeing.{seen_length, seen_few, seen_inside, frames_inside}
use Rattle.state.proofs.Moves.{fails, frames_few}
use Rattle.state.proofs.part.fail.Goals as goal

pub frames_before-at-requires : goal.frames_before-at-requires
frames_before-at-requires c =
    (omega (arith, seen_inside c.requires.seen), seen_few c.requires.seen Positions)

pub part_end-end-requires : goal.part_end-end-requires
part_end-end-requires c =
    (seen_few c.requires.seen Positions, seen_inside c.requires.seen)

pub frames_within-k-requires : goal.frames_within-k-requires
frames_within-k-requires c =
    (seen_few c.requires.seen Positions, c.part_end-end.ensures)

pub take_tree-tree-requires : goal.take_tree-tree-requires
take_tree-tree-requires c =
    seen_few c.requires.seen Positions

pub remove_frames-requires : goal.remove_frames-requires
remove_frames-requires c =
    (omega (arith, frames_inside c.requires.seen _ _ c.frames_before-at.ensures c.frames_within-k.ensures), seen_few c.requires.seen Frames)

pub failed-requires : goal.failed-requires
failed-requires c =
    (c.take_tree-tree.ensures.bounded, rw c.take_tree-tree.ensures.same c.part_end-end.ensures)

pub put_tree-requires : goal.put_tree-requires
put_tree-requires c =
    (frames_few c.requires.seen (λ p is. (_, c.remove_frames.ensures p is)), c.failed.ensures.bounded, c.failed.ensures.words c.take_tree-tree.ensures.worded)

pub returns : goal.returns
returns c =
    λ x st u s.
    fails _ _ _ _ c.frames_before-at.ensures c.frames_within-k.ensures c.take_tree-tree.ensures.same c.failed.ensures c.remove_frames.ensures c.put_tree.ensures s
