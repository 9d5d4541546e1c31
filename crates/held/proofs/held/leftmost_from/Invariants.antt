use Prim.Native.Nat.{◌≤◌}
use Rattle.tree.proofs.Walks.{JoinsFrom}
use Rattle.state.specs.Positions.{entries_in}
use Rattle.held.proofs.held.leftmost_from.Given as goal

abbrev pub invariant-loop-k : goal.invariant-loop-k
invariant-loop-k l = (l.k ≤ l.i) × JoinsFrom (entries_in l.block) l.k l.i
