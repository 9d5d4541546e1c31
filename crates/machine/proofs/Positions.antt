-- Positions of a tree: it has at least one, and numbers beyond them name none.
use Prim.Native.Nat.{ℕ, zero, suc, ◌-◌, ◌≤◌, ◌<◌}
use native.Mathlib.Omega.{arith}
use mathlib.Core.Path.{◌≡◌, refl}
use mathlib.Core.Option.{none}
use borrow.Author.Tests.{le-ltb}
use Rattle.machine.specs.Config.{Tree, running, returning, failed, join}
use Rattle.machine.specs.Machine.{size, locate}

pub size_some : (t : Tree) → 0 < size t
size_some (running a e fs) = omega arith
size_some (returning v fs) = omega arith
size_some failed = omega arith
size_some (join fs a e l r) = omega arith

pub outside : (t : Tree) (n : ℕ) → size t ≤ n → locate t n ≡ none
outside (running a e fs) zero h = absurd (omega arith)
outside (running a e fs) (suc n) h = refl
outside (returning v fs) zero h = absurd (omega arith)
outside (returning v fs) (suc n) h = refl
outside failed zero h = absurd (omega arith)
outside failed (suc n) h = refl
outside (join fs a e l r) zero h = absurd (omega arith)
outside (join fs a e l r) (suc n) h = rw (le-ltb n (size l) (omega arith), outside r (n - size l) (omega arith))
