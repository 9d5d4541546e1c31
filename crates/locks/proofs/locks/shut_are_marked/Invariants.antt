use Prim.Native.Nat.{◌≤◌}
use Rattle.block.specs.declared.Area.TheVariants.{Objects}
use Rattle.block.specs.Layout.{counted}
use Rattle.locks.proofs.MarkLaws.{MarksLeft}
use Rattle.locks.proofs.locks.shut_are_marked.Given as goal

abbrev pub invariant-loop-o : goal.invariant-loop-o
invariant-loop-o l = (l.o ≤ counted l.block Objects) × MarksLeft l.block l.marks l.o
