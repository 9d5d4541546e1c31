use mathlib.Core.Path.{◌≡◌}
use Prim.Native.Nat.{◌≤◌}
use lib.ListN.{length}
use Rattle.state.proofs.Putting.{Writing}
use Rattle.state.proofs.whole.put_tree.Given as goal

abbrev pub invariant-loop-i : goal.invariant-loop-i
invariant-loop-i l = (length l.block ≡ length l.initial.block) × (l.i ≤ l.n) × Writing l.initial.block l.tree l.block l.i
