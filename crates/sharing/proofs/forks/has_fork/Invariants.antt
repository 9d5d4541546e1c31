use Prim.Native.Nat.{ℕ, ◌<◌, ◌≤◌}
use mathlib.Core.Path.{◌≡◌}
use Rattle.script.specs.Section.{node_word}
use Rattle.sharing.proofs.forks.has_fork.Given as goal

abbrev pub invariant-loop-n : goal.invariant-loop-n
invariant-loop-n l = (l.n ≤ l.count) × ((k : ℕ) → k < l.n → node_word l.script.bytes.now k 0 ≡ 8 → ⊥)
