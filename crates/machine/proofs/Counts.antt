-- The counts of nodes, and the largest of them.
use Prim.Native.Nat.{ℕ, zero, suc, ◌+◌, ◌≤◌, ◌<◌, max}
use native.Mathlib.Omega.{arith}
use native.Mathlib.Decide.{ℕ_discrete, dec_le}
use mathlib.Core.Path.{◌≡◌, refl, ap}
use borrow.Author.Tests.{lt-ltb, le-ltb}
use Rattle.script.specs.Lists.{run}
use Rattle.script.specs.Syntax.{Point}
use Rattle.machine.specs.Config.{Code}
use Rattle.machine.specs.Silent.{chain, silent_from, largest}

-- The count of a node that is there is its chain, and 0 is that of any other number.
pub node_count_lem : (s : Code) (n : Point) → n < s.size → silent_from s n ≡ chain (s.expr n)
unfolding silent_from
node_count_lem s n h = rw (lt-ltb n s.size h) refl

pub no_count : (s : Code) (n : ℕ) → s.size ≤ n → silent_from s n ≡ 0
unfolding silent_from
no_count s n h = rw (le-ltb n s.size h) refl

-- The largest of several counts is below none of them, and is one of them.
pub largest_bounds : (f : ℕ → ℕ) (i k n : ℕ) → i ≤ n → n < i + k → f n ≤ largest (run f i k)
unfolding run
largest_bounds f i zero n h l = absurd (omega arith)
largest_bounds f i (suc k) n h l = go (ℕ_discrete i n) (λ m. largest_bounds f (i + 1) k n m (omega arith))
  where
    go : Dec (i ≡ n) → (i + 1 ≤ n → f n ≤ largest (run f (i + 1) k)) → f n ≤ max (f i) (largest (run f (i + 1) k))
    go (yes e) rec = omega (arith, ap f e)
    go (no e) rec = omega (arith, rec (omega arith))

pub largest_there : (f : ℕ → ℕ) (i k : ℕ) → (n : ℕ) × (i ≤ n) × (n ≤ i + k) × (f n ≡ largest (run f i (suc k)))
unfolding run
largest_there f i zero = (i, omega arith, omega arith, omega arith)
largest_there f i (suc k) = go (largest_there f (i + 1) k) (dec_le (largest (run f (i + 1) (suc k))) (f i))
  where
    go : ((n : ℕ) × (i + 1 ≤ n) × (n ≤ i + 1 + k) × (f n ≡ largest (run f (i + 1) (suc k)))) → Dec (largest (run f (i + 1) (suc k)) ≤ f i)
        → (n : ℕ) × (i ≤ n) × (n ≤ i + suc k) × (f n ≡ largest (run f i (suc (suc k))))
    go x (yes h) = (i, omega arith, omega arith, omega arith)
    go x (no h) = (x.0, omega (arith, x.1), omega (arith, x.2), omega (arith, x.3))
