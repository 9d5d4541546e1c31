use Prim.Native.Nat.{◌≤◌}
use Rattle.names.specs.Ranks.{slot_of}
use Rattle.names.specs.Filling.{FilledTo}
use Rattle.names.proofs.ranks.fill_rank.Given as goal

abbrev pub invariant-loop-j : goal.invariant-loop-j
invariant-loop-j l = (l.j ≤ l.names) × FilledTo l.script.bytes.now l.facts (slot_of l.n l.j) l.count
