-- Bytes or-ed one after the other: 0 where each of them is 0, and only there.
use mathlib.Core.Path.{◌≡◌, refl}
use mathlib.Core.Bool.{true, false}
use mathlib.Core.List.{List}
use Prim.Native.Nat.{ℕ, ◌+◌, ◌<◌, ◌≤◌}
use native.Mathlib.Omega.{arith}
use native.Mathlib.Decide.{dec_lt}
use lib.Dec.{eqb}
use lib.Bits.{bit_or, or_add_and, and_le_l, and_le_r}
use lib.ListN.{length, get_or, get_or-eq_default}
use borrow.Author.Tests.{eqb-true, eqb-false}
use Rattle.slices.specs.Zero.{AllZero}

-- an or is 0 where both numbers are, and only there
or_none : (a b : ℕ) → bit_or a b ≡ 0 → (a ≡ 0) × (b ≡ 0)
or_none a b e = (omega (arith, or_add_and a b, and_le_r a b), omega (arith, or_add_and a b, and_le_l a b))

none_or : (a b : ℕ) → a ≡ 0 → b ≡ 0 → bit_or a b ≡ 0
none_or a b p q = omega (arith, or_add_and a b)

-- the or of the first i bytes: where it is 0 each of them is, and where each of them is 0 it is
pub record Seen (s : List ℕ) (i seen : ℕ) : Type 0 where
  pub each : seen ≡ 0 → (k : ℕ) → k < i → get_or s k 0 ≡ 0
  pub none : ((k : ℕ) → k < i → get_or s k 0 ≡ 0) → seen ≡ 0

pub seen_none : (s : List ℕ) → Seen s 0 0
seen_none s = record { each = λ e k h. absurd (omega arith); none = λ z. refl }

pub seen_more : (s : List ℕ) (i seen : ℕ) → Seen s i seen → Seen s (i + 1) (bit_or seen (get_or s i 0))
seen_more s i seen r =
    record {
      each = λ e k h.
          let both = or_none seen (get_or s i 0) e in
          elim (dec_lt k i) [ yes l ↦ r.each both.0 k l | no l ↦ let q : k ≡ i = omega arith in rw q both.1 ];
      none = λ z. none_or seen (get_or s i 0) (r.none (λ k h. z k (omega arith))) (z i (omega arith));
    }

-- what the test at the end says
module _ (s : List ℕ) (i seen : ℕ) (r : Seen s i seen) (all : length s ≤ i) where
  pub seen_all : eqb seen 0 ≡ true → AllZero s
  seen_all e =
      record {
        zero = λ k. elim (dec_lt k i) [ yes l ↦ r.each (eqb-true seen 0 e) k l | no l ↦ get_or-eq_default s 0 {n = k} (omega arith) ];
      }

  pub seen_other : eqb seen 0 ≡ false → AllZero s → ⊥
  seen_other e z = eqb-false seen 0 e (r.none (λ k h. z.zero k))
