use Prim.Native.Nat.{ℕ, ◌≤◌, ◌<◌}
use Rattle.interfaces.specs.Cover.{Defines}
use Rattle.interfaces.proofs.covers.covers_list.Given as goal

abbrev pub invariant-loop-j : goal.invariant-loop-j
invariant-loop-j l = (l.from ≤ l.j) × ((k : ℕ) → k < l.j → l.from ≤ k → Defines l.script.bytes.now l.c k)
