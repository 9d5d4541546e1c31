use Prim.Native.Nat.{◌+◌, ◌-◌}
use mathlib.Core.Path.{◌≡◌}
use lib.ListN.{replicate}
use lib.Seq.{sets}
use Rattle.byte_table.proofs.put_range.Given as goal

abbrev pub invariant-loop-b : goal.invariant-loop-b
invariant-loop-b l = sets l.kinds l.b (replicate (l.last + 1 - l.b) l.kind) ≡ sets l.initial.kinds l.first (replicate (l.last + 1 - l.first) l.kind)
