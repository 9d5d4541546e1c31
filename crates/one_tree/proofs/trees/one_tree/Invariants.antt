use Prim.Native.Nat.{◌-◌}
use Rattle.one_tree.proofs.TreeLaws.{Walked}
use Rattle.one_tree.proofs.trees.one_tree.Given as goal

abbrev pub invariant-loop-i : goal.invariant-loop-i
invariant-loop-i l = Walked l.block l.n l.i l.trees
