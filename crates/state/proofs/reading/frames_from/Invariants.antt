use mathlib.Core.Path.{◌≡◌}
use Prim.Native.Nat.{◌*◌, ◌≤◌}
use lib.Seq.{slice}
use Rattle.tree.specs.Entries.{frame_sum}
use Rattle.state.specs.Positions.{entries_in}
use Rattle.state.proofs.reading.frames_from.Given as goal

abbrev pub invariant-loop-i : goal.invariant-loop-i
invariant-loop-i l = (l.from ≤ l.i) × (l.i ≤ l.to) × (l.sum ≡ frame_sum (slice l.from l.i (entries_in l.block))) × (l.sum ≤ 65535 * l.i)
