use mathlib.Core.Path.{◌≡◌}
use Prim.Native.Nat.{◌+◌, ◌≤◌}
use lib.ListN.{drop}
use Rattle.tree.proofs.Trees.{span}
use Rattle.state.specs.Positions.{entries_in}
use Rattle.state.proofs.reading.part_end.Given as goal

abbrev pub invariant-loop-p : goal.invariant-loop-p
invariant-loop-p l = (l.p ≤ l.n) × (l.need ≤ l.p + 1) × (l.p + span (drop l.p (entries_in l.block)) l.need ≡ l.i + span (drop l.i (entries_in l.block)) 1)
