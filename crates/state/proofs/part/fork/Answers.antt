use native.Mathlib.Omega.{arith}
use Rattle.block.specs.declared.Area.TheVariants.{Positions}
use Rattle.state.proofs.Taking.{taken_len}
use Rattle.state.proofs.Seeing.{seen_length, seen_few, seen_inside}
use Rattle.state.proofs.Moves.{forks}
use Rattle.state.proofs.part.fork.Goals as goal

pub take_tree-tree-requires : goal.take_tree-tree-requires
take_tree-tree-requires c =
    seen_few c.requires.0.seen Positions

pub forked-requires : goal.forked-requires
forked-requires c = (
  c.take_tree-tree.ensures.bounded,
  omega (arith, taken_len c.take_tree-tree.ensures, seen_inside c.requires.0.seen),
  omega (arith, taken_len c.take_tree-tree.ensures, c.requires.1),
)

pub put_tree-requires : goal.put_tree-requires
put_tree-requires c =
    (seen_few c.requires.0.seen Positions, c.forked.ensures.bounded, c.forked.ensures.words c.take_tree-tree.ensures.worded)

pub returns : goal.returns
returns c =
    λ x st a₀ e₀ fs s. forks _ _ _ _ _ _ c.take_tree-tree.ensures.same c.forked.ensures c.put_tree.ensures s
