use Prim.Native.Nat.{◌≤◌}
use Rattle.records.specs.Uses.{Adds, body_words}
use Rattle.records.proofs.nodes.count_bodies.Given as goal

abbrev pub invariant-loop-i : goal.invariant-loop-i
invariant-loop-i l = (l.i ≤ l.n) × Adds l.initial.uses l.uses (body_words l.file.bytes.now l.i)
