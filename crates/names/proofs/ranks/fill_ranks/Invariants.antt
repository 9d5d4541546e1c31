use Prim.Native.Nat.{◌*◌, ◌≤◌}
use Rattle.names.specs.Filling.{FilledTo}
use Rattle.names.proofs.ranks.fill_ranks.Given as goal

abbrev pub invariant-loop-n : goal.invariant-loop-n
invariant-loop-n l = (l.n ≤ l.nodes) × FilledTo l.script.bytes.now l.facts (2 * l.n) l.count
