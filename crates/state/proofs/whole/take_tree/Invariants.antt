use Rattle.state.proofs.Taking.{Filling}
use Rattle.state.proofs.whole.take_tree.Given as goal

abbrev pub invariant-loop-i : goal.invariant-loop-i
invariant-loop-i l = Filling l.block l.n l.out l.i
