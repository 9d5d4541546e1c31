use Rattle.slices.proofs.Zero.{Seen}
use Rattle.slices.proofs.all_zero.Given as goal

abbrev pub invariant-loop-x : goal.invariant-loop-x
invariant-loop-x l = Seen l.s l.x-index l.seen
