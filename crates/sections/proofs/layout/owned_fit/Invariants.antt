use Prim.Native.Nat.{◌*◌, ◌≤◌}
use mathlib.Core.Path.{◌≡◌}
use Rattle.script.specs.Lists.{sum_below}
use Rattle.sections.specs.Laid.{own_of}
use Rattle.sections.proofs.layout.owned_fit.Given as goal

abbrev pub invariant-loop-o : goal.invariant-loop-o
invariant-loop-o l = (l.o ≤ l.n) × (l.sum ≡ sum_below (own_of l.file.bytes.now l.k) l.o) × (l.sum ≤ 65536 * l.o)
