use Prim.Native.Nat.{◌-◌}
use mathlib.Core.Path.{◌≡◌}
use lib.ListN.{length}
use Rattle.limits.specs.Limits.{NODES}
use Rattle.masks.specs.Free.{ForkMarks, Like}
use Rattle.sharing.proofs.forks.fill_spans.Given as goal

abbrev pub invariant-loop-start : goal.invariant-loop-start
invariant-loop-start l = (length l.masks ≡ NODES) × Like l.script.bytes.now l.initial.facts l.facts × ForkMarks l.script.bytes.now l.start l.facts

abbrev pub decreases-loop-start : goal.decreases-loop-start
decreases-loop-start l = l.count - l.start
