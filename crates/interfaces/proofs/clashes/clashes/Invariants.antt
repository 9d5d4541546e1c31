use Prim.Native.Nat.{ℕ, ◌<◌}
use Rattle.interfaces.specs.Cover.{Agrees}
use Rattle.interfaces.proofs.clashes.clashes.Given as goal

abbrev pub invariant-loop-j : goal.invariant-loop-j
invariant-loop-j l = (l.i < l.j) × ((k : ℕ) → k < l.j → l.i < k → Agrees l.script.bytes.now l.name l.types.param l.types.result k)
