use Rattle.held.proofs.Locks.{Passed}
use Rattle.held.proofs.held.lock_within.Given as goal

abbrev pub invariant-loop-i : goal.invariant-loop-i
invariant-loop-i l = Passed l.block l.from l.to l.o l.i
