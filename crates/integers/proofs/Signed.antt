-- Laws of signed numbers that the code asks, split by the sign.
use mathlib.Core.Path.{◌≡◌, refl, sym, ap, ◌∙◌}
use mathlib.Core.Bool.{Bool, true, false, not}
use Prim.Native.Nat.{ℕ, zero, suc, ◌+◌, ◌*◌, ◌-◌, ◌<◌, ◌≤◌}
use native.Mathlib.Omega.{arith}
use lib.Dec.{ltb}
use lib.IntN.{ℤ, pos, negsuc, ◌+ℤ◌, ◌-ℤ◌}
use lib.Signed.{lt_z}
use borrow.Author.Tests.{ltb-true, ltb-false, lt-ltb, le-ltb, not-true, not-false}
use mir.Syntax.{w32}
use mir.Val.{SFits, to_z, of_z}
use mir.ValLaws.{to_z-of_z}
use Rattle.words.specs.Word.{WORD}
use Rattle.words.specs.Integer.{HALF, LAST, InRange, range_test, complement, integer, bits_of}
use Rattle.words.proofs.Integers.{range_exactly}
use Rattle.std.specs.declared.option.Option.TheVariants.{Some, None}
use Rattle.integers.specs.Sum.{sum_of}

-- What the machine reads back from the bits of a number is the number, if it fits.
abbrev pub read : ℤ → ℤ
read z = to_z w32 (of_z w32 z)

pub read_is : {z : ℤ} → SFits w32 z → read z ≡ z
read_is {z} f = to_z-of_z w32 z f

pub read_small : {z : ℤ} → SFits w32 z → InRange (read z)
read_small {z} f = rw (to_z-of_z w32 z f) f.sfits

-- a number of two words
pub reads : (low high : ℕ) → to_z w32 (high * 65536 + low) ≡ integer low high
unfolding integer
reads low high = let e : high * 65536 + low ≡ low + high * WORD = omega arith in rw e (go (ltb (low + high * WORD) HALF) refl)
  where
    go : (t : Bool) → ltb (low + high * WORD) HALF ≡ t → to_z w32 (low + high * WORD) ≡ complement (ltb (low + high * WORD) HALF) (low + high * WORD)
    go true q = rw q
    go false q = let d : 4294967296 - suc (low + high * WORD) ≡ LAST - (low + high * WORD) = omega arith in rw (q, d)

-- its bits
pub bits_are : (z : ℤ) → of_z w32 z ≡ bits_of z
bits_are (pos n) = refl
bits_are (negsuc n) = let d : 4294967296 - suc n ≡ LAST - n = omega arith in d

-- what is asked before x and y are added: a difference d in range, and whether the sum is not
pub record Asked (x y d : ℤ) (t : Bool) : Type 0 where
  pub fits : InRange d
  pub answer : t ≡ not (range_test (x +ℤ y))

-- an order that holds exactly where another does not
other_way : (a b c d : ℕ) → (a < b → d ≤ c) → (b ≤ a → c < d) → (t : Bool) → ltb a b ≡ t → ltb a b ≡ not (ltb c d)
other_way a b c d f g true e = rw (e, le-ltb c d (f (ltb-true a b e)))
other_way a b c d f g false e = rw (e, lt-ltb c d (g (ltb-false a b e)))

-- a sum of two signs is in range
mixed : (a b : ℕ) → a < HALF → b < HALF → (t : Bool) → ltb a (suc b) ≡ t → range_test (pos a +ℤ negsuc b) ≡ true
mixed a b h k true e = rw e (lt-ltb (suc b - suc a) HALF (omega arith))
mixed a b h k false e = rw e (lt-ltb (a - suc b) HALF (omega arith))

below : (x : ℤ) (b : ℕ) → InRange x → b < HALF → (t : Bool) → ltb (suc b) HALF ≡ t
    → Asked x (negsuc b) (negsuc 2147483647 -ℤ negsuc b) (lt_z x (negsuc 2147483647 -ℤ negsuc b))
below (pos a) b h k true e = rw e (record { fits = omega arith; answer = sym (ap not (mixed a b h k (ltb a (suc b)) refl)) })
below (pos a) b h k false e =
    let m : suc b - HALF ≤ a = omega arith in
    rw (e, le-ltb a (suc b - HALF) m) (record { fits = omega arith; answer = sym (ap not (mixed a b h k (ltb a (suc b)) refl)) })
below (negsuc a) b h k true e =
    let l : suc b < HALF = ltb-true (suc b) HALF e in
    rw e
    (record {
      fits = omega arith;
      answer = other_way (HALF - suc (suc b)) a (suc (a + b)) HALF (λ m. omega arith) (λ m. omega arith) (ltb (HALF - suc (suc b)) a) refl;
    })
below (negsuc a) b h k false e =
    let l : HALF ≤ suc b = ltb-false (suc b) HALF e in
    rw e (record { fits = omega arith; answer = sym (ap not (le-ltb (suc (a + b)) HALF (omega arith))) })

pub asked_neg : (x y : ℤ) → InRange x → InRange y → lt_z y (pos 0) ≡ true → Asked x y (negsuc 2147483647 -ℤ y) (lt_z x (read (negsuc 2147483647 -ℤ y)))
asked_neg x (pos b) h k n = let k : b < 0 = ltb-true b 0 n in absurd (omega arith)
asked_neg x (negsuc b) h k n = let a = below x b h k (ltb (suc b) HALF) refl in rw (read_is (record { sfits = a.fits })) a

-- the greatest number less one from 0 on
room : (b : ℕ) → b < HALF → pos 2147483647 -ℤ pos b ≡ pos (2147483647 - b)
room zero h = refl
room (suc b) h = rw (le-ltb 2147483647 (suc b) (omega arith))

above : (x : ℤ) (b : ℕ) → InRange x → b < HALF → Asked x (pos b) (pos (2147483647 - b)) (lt_z (pos (2147483647 - b)) x)
above (pos a) b h k =
    record {
      fits = omega arith;
      answer = other_way (2147483647 - b) a (a + b) HALF (λ m. omega arith) (λ m. omega arith) (ltb (2147483647 - b) a) refl;
    }
above (negsuc a) b h k = record { fits = omega arith; answer = sym (ap not (mixed b a k h (ltb b (suc a)) refl)) }

pub asked_pos : (x y : ℤ) → InRange x → InRange y → lt_z y (pos 0) ≡ false → Asked x y (pos 2147483647 -ℤ y) (lt_z (read (pos 2147483647 -ℤ y)) x)
asked_pos x (pos b) h k n = let a = above x b h k in rw (room b k, read_is (record { sfits = a.fits })) a
asked_pos x (negsuc b) h k n = let e : ◌≡◌ {A = ℕ} 0 1 = cc in absurd (omega arith)

-- the answer of two numbers that are read back, and the sum by it
module _ {x y : ℤ} (f : SFits w32 x) (g : SFits w32 y) {t : Bool} (a : t ≡ not (range_test (read x +ℤ read y))) where
  pub plain : t ≡ not (range_test (x +ℤ y))
  plain = a ∙ rw (read_is f, read_is g)

  pub outside_is : t ≡ true → None ≡ sum_of x y
  outside_is e = rw (not-true (range_test (x +ℤ y)) (sym plain ∙ e))

  pub sum_fits : t ≡ false → SFits w32 (read x +ℤ read y)
  sum_fits e = record { sfits = (range_exactly (read x +ℤ read y)).0 (not-false (range_test (read x +ℤ read y)) (sym a ∙ e)) }

  pub sum_is : t ≡ false → Some (read (read x +ℤ read y)) ≡ sum_of x y
  sum_is e = rw (read_is (sum_fits e), read_is f, read_is g, not-false (range_test (x +ℤ y)) (sym plain ∙ e))
