use Prim.Native.Nat.{◌≤◌}
use Rattle.locks.specs.Locking.{Marks}
use Rattle.locks.proofs.locks.mark_frames.Given as goal

abbrev pub invariant-loop-i : goal.invariant-loop-i
invariant-loop-i l = (l.i ≤ l.count) × Marks l.block l.i l.marks
