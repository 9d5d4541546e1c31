-- Signed 32-bit numbers and their two words, each from the other. Only here a number is split by its sign.
use mathlib.Core.Path.{◌≡◌, refl, ap, ◌∙◌}
use mathlib.Core.Bool.{Bool, true, false}
use Prim.Native.Nat.{ℕ, ◌+◌, ◌*◌, ◌-◌, ◌<◌, ◌≤◌}
use native.Mathlib.Omega.{arith}
use lib.Dec.{ltb}
use lib.IntN.{ℤ, pos, negsuc}
use borrow.Author.Tests.{ltb-true, ltb-false, lt-ltb, le-ltb}
use Rattle.words.specs.Word.{WORD}
use Rattle.words.specs.Integer.{HALF, LAST, InRange, range_test, complement, integer, bits_of, low_word, high_word}

-- the test of the range says what it asks
pub range_exactly : (z : ℤ) → (range_test z ≡ true → InRange z) × (InRange z → range_test z ≡ true)
range_exactly z = (ltb-true _ HALF, lt-ltb _ HALF)

-- two's complement of n below 4,294,967,296, by the test that it asks
record Complements (n : ℕ) (z : ℤ) : Type 0 where
  pub bits : bits_of z ≡ n
  pub in_range : InRange z

complements : (n : ℕ) → n ≤ LAST → (b : Bool) → ltb n HALF ≡ b → Complements n (complement b n)
complements n h true e = record { bits = refl; in_range = ltb-true n HALF e }
complements n h false e = let k : HALF ≤ n = ltb-false n HALF e in record { bits = omega arith; in_range = omega arith }

-- and back
bits_complement : (z : ℤ) → InRange z → complement (ltb (bits_of z) HALF) (bits_of z) ≡ z
bits_complement (pos n) h = rw (lt-ltb n HALF h)
bits_complement (negsuc n) h =
    let k : HALF ≤ LAST - n = omega arith in
    let e : LAST - (LAST - n) ≡ n = omega arith in
    rw (le-ltb (LAST - n) HALF k) (ap negsuc e)

pub bits_fit : (z : ℤ) → InRange z → bits_of z ≤ LAST
bits_fit (pos n) h = omega arith
bits_fit (negsuc n) h = omega arith

-- the words of a number of two words, which is in range
pub record OfWords (low high : ℕ) : Type 0 where
  pub low_word_lem : low_word (integer low high) ≡ low
  pub high_word_lem : high_word (integer low high) ≡ high
  pub in_range : InRange (integer low high)

pub integer_words : {low high : ℕ} → low < WORD → high < WORD → OfWords low high
unfolding integer low_word high_word
integer_words {low} {high} l h =
    let n : ℕ = low + high * WORD in
    let r : Complements n (complement (ltb n HALF) n) = complements n (omega arith) (ltb n HALF) refl in
    record { low_word_lem = rw r.bits (omega arith); high_word_lem = rw r.bits (omega arith); in_range = r.in_range }

-- the number of the two words of a number
pub record ToWords (z : ℤ) : Type 0 where
  pub whole : integer (low_word z) (high_word z) ≡ z
  pub low_fits : low_word z < WORD
  pub high_fits : high_word z < WORD

pub words_integer : (z : ℤ) → InRange z → ToWords z
unfolding integer low_word high_word
words_integer z r =
    let h : bits_of z ≤ LAST = bits_fit z r in
    let e : low_word z + high_word z * WORD ≡ bits_of z = omega arith in
    record {
      whole = ap (λ (n : ℕ). complement (ltb n HALF) n) e ∙ bits_complement z r;
      low_fits = omega arith;
      high_fits = omega arith;
    }
