use Prim.Native.Nat.{◌≤◌}
use Rattle.initials.proofs.InitialLaws.{Started}
use Rattle.initials.proofs.initials.fill_numbers.Given as goal

abbrev pub invariant-loop-k : goal.invariant-loop-k
invariant-loop-k l = (l.k ≤ l.count) × Started l.script.bytes.now l.from l.count l.initial.block l.block l.n l.k
