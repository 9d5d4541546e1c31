use Prim.Native.Nat.{◌≤◌}
use Rattle.script.specs.Questions.{parts_from}
use Rattle.records.specs.Uses.{Adds}
use Rattle.records.proofs.nodes.count_nodes.Given as goal

abbrev pub invariant-loop-i : goal.invariant-loop-i
invariant-loop-i l = (l.i ≤ l.n) × Adds l.initial.uses l.uses (parts_from l.file.bytes.now 0 l.i)
