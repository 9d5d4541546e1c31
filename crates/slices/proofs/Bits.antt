-- Laws of bits: what the operations do to each bit, and to the flags that bits are.
use Prim.Native.Nat.{ℕ, zero, suc, ◌+◌, ◌*◌, ◌/◌, ◌%◌, ◌^◌, ◌<◌, ◌≤◌, min, max}
use mathlib.Core.Path.{◌≡◌, refl, sym, ap, ◌∙◌}
use mathlib.Core.Bool.{Bool, true, false, ◌||◌, true≢false}
use mathlib.Core.Logic.{◌⊎◌, inl, inr}
use native.Mathlib.Nat.{mod-lt}
use native.Mathlib.Omega.{arith}
use native.Mathlib.Numerals.{add-one}
use lib.Arith.{digits_mod}
use lib.Dec.{eqb}
use lib.Pow.{shr-shr, shr_lt}
use lib.Bits.{bit_and, bit_or, bit_xor, differ, and_step, or_step, xor_step, and_shr, or_shr, xor_shr, shifted_half, shifted_even}
use Rattle.slices.specs.Bits.{flag_of, bit_of}

-- An operation that goes through two numbers digit by digit does f to each two bits.
module _ (op f : ℕ → ℕ → ℕ)
    (shr : (a b k : ℕ) → op a b / 2 ^ k ≡ op (a / 2 ^ k) (b / 2 ^ k))
    (step : (a b : ℕ) → op a b ≡ op (a / 2) (b / 2) * 2 + f (a % 2) (b % 2))
    (small : (x y : ℕ) → x < 2 → y < 2 → f x y < 2) where
  bit_op : (a b k : ℕ) → bit_of (op a b) k ≡ f (bit_of a k) (bit_of b k)
  unfolding bit_of
  bit_op a b k =
      let x : ℕ = a / 2 ^ k in
      let y : ℕ = b / 2 ^ k in
      ap (λ (n : ℕ). n % 2) (shr a b k ∙ step x y)
      ∙ digits_mod (op (x / 2) (y / 2)) (small (x % 2) (y % 2) (mod-lt x (omega arith)) (mod-lt y (omega arith)))

differ_small : (x y : ℕ) → x < 2 → y < 2 → differ x y < 2
differ_small zero y p q = q
differ_small (suc x) zero p q = p
differ_small (suc zero) (suc y) p q = omega arith
differ_small (suc (suc x)) (suc y) p q = absurd (omega arith)

pub bit_and_lem : (a b k : ℕ) → bit_of (bit_and a b) k ≡ min (bit_of a k) (bit_of b k)
bit_and_lem = bit_op bit_and min and_shr and_step (λ x y p q. omega arith)

pub bit_or_lem : (a b k : ℕ) → bit_of (bit_or a b) k ≡ max (bit_of a k) (bit_of b k)
bit_or_lem = bit_op bit_or max or_shr or_step (λ x y p q. omega arith)

pub bit_xor_lem : (a b k : ℕ) → bit_of (bit_xor a b) k ≡ differ (bit_of a k) (bit_of b k)
bit_xor_lem = bit_op bit_xor differ xor_shr xor_step differ_small

-- Bit k + 1 of a number is bit k of its half.
bit_suc : (m k : ℕ) → bit_of m (suc k) ≡ bit_of (m / 2) k
unfolding bit_of
bit_suc m k = let e : 1 + k ≡ suc k = omega arith in ap (λ (n : ℕ). n % 2) (sym (rw e at (shr-shr m 1 k)))

-- No bit of 0 is set.
pub bit_zero : (k : ℕ) → bit_of 0 k ≡ 0
bit_zero zero = unfold bit_of in refl
bit_zero (suc k) = bit_suc 0 k ∙ bit_zero k

-- Bit 0 is the last digit.
bit_low : (m : ℕ) → bit_of m 0 ≡ m % 2
unfolding bit_of
bit_low m = omega arith

-- Of 2 ^ j only bit j is set.
pub bit_same : (j : ℕ) → bit_of (1 * 2 ^ j) j ≡ 1
bit_same zero = bit_low 1
bit_same (suc j) = bit_suc (1 * 2 ^ suc j) j ∙ rw (shifted_half 1 j) (bit_same j)

pub bit_other : (j k : ℕ) → (j ≡ k → ⊥) → bit_of (1 * 2 ^ j) k ≡ 0
bit_other zero zero n = absurd (n refl)
bit_other zero (suc k) n = bit_suc 1 k ∙ bit_zero k
bit_other (suc j) zero n = bit_low (1 * 2 ^ suc j) ∙ shifted_even 1 j
bit_other (suc j) (suc k) n = bit_suc (1 * 2 ^ suc j) k ∙ rw (shifted_half 1 j) (bit_other j k (λ e. n (ap suc e)))

-- A number that is not 0 has a bit that is set.
pub record SetBit (m j : ℕ) : Type 0 where
  pub place : ℕ
  pub within : place < j
  pub set : bit_of m place ≡ 1

pub set_bit : (j m : ℕ) → m < 2 ^ j → (m ≡ 0 → ⊥) → SetBit m j
set_bit zero m h n = absurd (n (omega arith))
set_bit (suc j) m h n = go (m % 2) refl (λ p. set_bit j (m / 2) (shr_lt j 1 (rw (sym (add-one j)) at h)) p)
  where
    go : (r : ℕ) → m % 2 ≡ r → ((m / 2 ≡ 0 → ⊥) → SetBit (m / 2) j) → SetBit m (suc j)
    go zero e half = let b = half (λ z. n (omega arith)) in record { place = suc b.place; within = omega (arith, b.within); set = bit_suc m b.place ∙ b.set }
    go (suc r) e half = record { place = 0; within = omega arith; set = bit_low m ∙ omega arith }

-- What the operations do to flags.
pub flag_or : (a b : Bool) → max (flag_of a) (flag_of b) ≡ flag_of (a || b)
flag_or true true = refl
flag_or true false = refl
flag_or false true = refl
flag_or false false = refl

pub flag_off : (a b : Bool) → b ≡ true → differ (max (flag_of a) (flag_of b)) (flag_of b) ≡ 0
flag_off true true e = refl
flag_off true false e = absurd (true≢false (sym e))
flag_off false true e = refl
flag_off false false e = absurd (true≢false (sym e))

pub flag_kept : (a b : Bool) → b ≡ false → differ (max (flag_of a) (flag_of b)) (flag_of b) ≡ flag_of a
flag_kept true true e = absurd (true≢false e)
flag_kept true false e = refl
flag_kept false true e = absurd (true≢false e)
flag_kept false false e = refl

pub both_flags : (a b : Bool) → min (flag_of a) (flag_of b) ≡ 1 → (a ≡ true) × (b ≡ true)
both_flags true true e = (refl, refl)
both_flags true false e = absurd (omega arith)
both_flags false true e = absurd (omega arith)
both_flags false false e = absurd (omega arith)

-- A bit that an operation makes 1 comes from one that is 1.
pub max_one : (a b : ℕ) → max a b ≡ 1 → (a ≡ 1) ⊎ (b ≡ 1)
max_one zero b e = inr (omega arith)
max_one (suc a) b e = inl (omega arith)

pub off_one : (a b : ℕ) → a < 2 → b < 2 → differ (max a b) b ≡ 1 → max a b ≡ 1
off_one a b p q e = go (max a b) (omega arith) (omega arith) e
  where
    go : (m : ℕ) → m < 2 → b ≤ m → differ m b ≡ 1 → m ≡ 1
    go zero h l e = absurd (omega arith)
    go (suc m) h l e = omega arith

pub bit_small : (m k : ℕ) → bit_of m k < 2
unfolding bit_of
bit_small m k = mod-lt (m / 2 ^ k) (omega arith)

pub min_one : (a b : ℕ) → a < 2 → min a b ≡ 1 → a ≡ 1
min_one a b h e = omega arith

pub flag_one : (b : Bool) → flag_of b ≡ 1 → b ≡ true
flag_one true e = refl
flag_one false e = absurd (omega arith)

-- A bit that is asked for.
pub flag_bit : (m k : ℕ) → flag_of (eqb (m / 2 ^ k % 2) 1) ≡ bit_of m k
unfolding bit_of
flag_bit m k = go (m / 2 ^ k % 2) (mod-lt (m / 2 ^ k) (omega arith))
  where
    go : (r : ℕ) → r < 2 → flag_of (eqb r 1) ≡ r
    go zero h = refl
    go (suc zero) h = refl
    go (suc (suc r)) h = absurd (omega arith)
