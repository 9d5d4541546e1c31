use Prim.Native.Nat.{ℕ, ◌<◌}
use Rattle.interfaces.specs.Cover.{Unclashed}
use Rattle.interfaces.proofs.clashes.no_clash.Given as goal

abbrev pub invariant-loop-i : goal.invariant-loop-i
invariant-loop-i l = (k : ℕ) → k < l.i → Unclashed l.script.bytes.now k
