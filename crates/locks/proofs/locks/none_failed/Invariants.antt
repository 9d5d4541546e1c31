use Prim.Native.Nat.{◌≤◌}
use Rattle.locks.proofs.MarkLaws.{PositionsLeft}
use Rattle.locks.proofs.locks.none_failed.Given as goal

abbrev pub invariant-loop-i : goal.invariant-loop-i
invariant-loop-i l = (l.i ≤ l.count) × PositionsLeft l.block l.count l.i
