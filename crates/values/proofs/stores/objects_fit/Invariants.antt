use Prim.Native.Nat.{◌≤◌}
use Rattle.values.proofs.StoreLaws.{ObjectsLeft}
use Rattle.values.proofs.stores.objects_fit.Given as goal

abbrev pub invariant-loop-i : goal.invariant-loop-i
invariant-loop-i l = (l.i ≤ l.count) × ObjectsLeft l.script.bytes.now l.block l.count l.i
