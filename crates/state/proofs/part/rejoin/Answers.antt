use Rattle.block.specs.declared.Area.TheVariants.{Positions}
use Rattle.state.proofs.Seeing.{seen_length, seen_few, seen_inside}
use Rattle.state.proofs.Moves.{rejoins}
use Rattle.state.proofs.part.rejoin.Goals as goal

pub part_end-end-requires : goal.part_end-end-requires
part_end-end-requires c =
    (seen_few c.requires.seen Positions, seen_inside c.requires.seen)

pub take_tree-tree-requires : goal.take_tree-tree-requires
take_tree-tree-requires c =
    seen_few c.requires.seen Positions

pub joined-requires : goal.joined-requires
joined-requires c =
    (c.take_tree-tree.ensures.bounded, rw c.take_tree-tree.ensures.same c.part_end-end.ensures)

pub put_tree-requires : goal.put_tree-requires
put_tree-requires c =
    (seen_few c.requires.seen Positions, c.joined.ensures.bounded, c.joined.ensures.words c.take_tree-tree.ensures.worded)

pub returns : goal.returns
returns c =
    λ x st fs a e left right l k s. rejoins _ _ c.take_tree-tree.ensures.same c.joined.ensures c.put_tree.ensures l k s
