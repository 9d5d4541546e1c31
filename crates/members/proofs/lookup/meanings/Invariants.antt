use Rattle.members.specs.Lookup.{Meanings}
use Prim.Native.Nat.{◌≤◌}
use Rattle.members.proofs.lookup.meanings.Given as goal

abbrev pub invariant-loop-i : goal.invariant-loop-i
invariant-loop-i l = (l.i ≤ l.n) × Meanings l.script.bytes.now l.m l.i l.table
