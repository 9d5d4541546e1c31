-- Words that must be 0: what the code of `zeros` answers, with the code's locals as variables.
use mathlib.Core.Path.{◌≡◌, sym, ◌∙◌}
use mathlib.Core.Bool.{Bool, true, false}
use mathlib.Core.List.{List}
use Prim.Native.Nat.{ℕ, ◌+◌, ◌*◌, ◌-◌, ◌/◌, ◌%◌, ◌<◌, ◌≤◌}
use native.Mathlib.Nat.{mul-suc, mul-le-mul_left}
use native.Mathlib.Omega.{arith}
use native.Mathlib.Decide.{dec_lt}
use lib.ListN.{get_or, take, drop, length-take, get_or-eq_default}
use lib.Seq.{get_or-take, get_or-drop}
use Rattle.words.specs.Word.{word_at}
use Rattle.slices.specs.Zero.{AllZero}
use Rattle.script.specs.Asking.{Decides, holds}
use Rattle.script.proofs.Tests.{decides, decides_as}
use Rattle.block.specs.declared.Area.{Area}
use Rattle.block.specs.declared.Area.TheVariants.{Objects, Bindings, Positions, Frames}
use Rattle.block.specs.Layout.{width, most, begins, END, counted, word_in}
use Rattle.block.proofs.Words.{within, area_ends}
use Rattle.representation.specs.InOrder.{Unused, Blank, words_of}

-- A word is 0 where its two bytes are, and only there.
byte_zero : (b : List ℕ) (m : ℕ) → word_at b (2 * (m / 2)) ≡ 0 → get_or b m 0 ≡ 0
unfolding word_at
byte_zero b m e =
    elim (dec_lt (m % 2) 1) [
      | yes h ↦ let low : 2 * (m / 2) ≡ m = omega arith in let z : get_or b (2 * (m / 2)) 0 ≡ 0 = omega arith in rw low at z
      | no h ↦ let high : 2 * (m / 2) + 1 ≡ m = omega arith in let z : get_or b (2 * (m / 2) + 1) 0 ≡ 0 = omega arith in rw high at z
    ]

-- The bytes of the block from word `from` up to word `to`.
module _ (b : List ℕ) (from to : ℕ) where
  abbrev part : List ℕ
  part = take (2 * to - 2 * from) (drop (2 * from) b)

  part_at : (k : ℕ) → k < 2 * to - 2 * from → get_or part k 0 ≡ get_or b (2 * from + k) 0
  part_at k h = get_or-take (2 * to - 2 * from) (drop (2 * from) b) k 0 h ∙ get_or-drop (2 * from) b k 0

  bytes_there : AllZero part → Unused (words_of b) from to
  unfolding word_at
  bytes_there z =
      record {
        zero = λ n l h.
            let k = 2 * n - 2 * from in
            let low : 2 * from + k ≡ 2 * n = omega arith in
            let high : 2 * from + (k + 1) ≡ 2 * n + 1 = omega arith in
            let x : get_or b (2 * n) 0 ≡ 0 = rw low at (sym (part_at k (omega arith)) ∙ z.zero k) in
            let y : get_or b (2 * n + 1) 0 ≡ 0 = rw high at (sym (part_at (k + 1) (omega arith)) ∙ z.zero (k + 1)) in
            omega arith;
      }

  bytes_back : Unused (words_of b) from to → AllZero part
  bytes_back u =
      record {
        zero = λ k.
            elim (dec_lt k (2 * to - 2 * from)) [
              | yes h ↦ part_at k h ∙ byte_zero b (2 * from + k) (u.zero ((2 * from + k) / 2) (omega arith) (omega arith))
              | no h ↦ get_or-eq_default part 0 {n = k} (omega (arith, length-take (2 * to - 2 * from) (drop (2 * from) b)))
            ];
      }

  pub none_asked : to ≤ from → Decides (Unused (words_of b) from to) true
  none_asked h = holds (record { zero = λ n l k. absurd (omega arith) })

  pub bytes_asked : {r : Bool} → (r ≡ true → AllZero part) → (r ≡ false → AllZero part → ⊥) → Decides (Unused (words_of b) from to) r
  bytes_asked {r} p q = decides r (λ e. bytes_there (p e)) (λ e u. q e (bytes_back u))

-- Each word of a record that is not counted is one of the words after those that are.
blank_there : (b : List ℕ) (a : Area) → Unused (words_of b) (begins a + width a * counted b a) (begins a + width a * most a) → Blank b a
blank_there b a z =
    record { zero = λ i j l h k. z.zero (begins a + width a * i + j) (omega (arith, mul-le-mul_left (width a) l)) (omega (arith, within a i j h k)) }

-- Word n of those that are not counted is word j of record i.
cell_at :
    (b : List ℕ) (a : Area) (n i j : ℕ)
    → Blank b a
    → begins a + width a * i + j ≡ n
    → counted b a ≤ i
    → i < most a
    → j < width a
    → word_at b (2 * n) ≡ 0
cell_at b a n i j k e l h m = rw e at (k.zero i j l h m)

blank_back : (b : List ℕ) (a : Area) → Blank b a → Unused (words_of b) (begins a + width a * counted b a) (begins a + width a * most a)
blank_back b Objects k =
    record { zero = λ n l h. let d = n - begins Objects in cell_at b Objects n (d / width Objects) (d % width Objects) k (omega arith) (omega arith) (omega arith) (omega arith) }
blank_back b Bindings k =
    record { zero = λ n l h. let d = n - begins Bindings in cell_at b Bindings n (d / width Bindings) (d % width Bindings) k (omega arith) (omega arith) (omega arith) (omega arith) }
blank_back b Positions k =
    record { zero = λ n l h. let d = n - begins Positions in cell_at b Positions n (d / width Positions) (d % width Positions) k (omega arith) (omega arith) (omega arith) (omega arith) }
blank_back b Frames k =
    record { zero = λ n l h. let d = n - begins Frames in cell_at b Frames n (d / width Frames) (d % width Frames) k (omega arith) (omega arith) (omega arith) (omega arith) }

-- The words of a record, and those of the records that are not counted, as words of the block.
module _ (a : Area) (first wide : ℕ) (f : first ≡ begins a) (w : wide ≡ width a) where
  pub record_ends : (i k : ℕ) → i < most a → k ≤ width a → first + wide * i + k ≤ END
  record_ends i k h l = rw (f, w) (omega (arith, mul-suc (width a) i, mul-le-mul_left (width a) h, area_ends a))

  pub records_end : (n : ℕ) → n ≤ most a → first + wide * n ≤ END
  records_end n h = rw (f, w) (omega (arith, mul-le-mul_left (width a) h, area_ends a))

  module _ (b : List ℕ) {r : Bool} where
    pub unused_asked : (i from to : ℕ) → Decides (Unused (words_of b) (first + wide * i + from) (first + wide * i + to)) r → Decides (Unused (word_in b a i) from to) r
    unused_asked i from to = rw (f, w) (decides_as there back)
      where
        there : Unused (words_of b) (begins a + width a * i + from) (begins a + width a * i + to) → Unused (word_in b a i) from to
        there z = record { zero = λ j l h. z.zero (begins a + width a * i + j) (omega arith) (omega arith) }

        back : Unused (word_in b a i) from to → Unused (words_of b) (begins a + width a * i + from) (begins a + width a * i + to)
        back u =
            record {
              zero = λ n l h.
                  let j = n - (begins a + width a * i) in
                  let e : begins a + width a * i + j ≡ n = omega arith in
                  rw e at (u.zero j (omega arith) (omega arith));
            }

    pub blank_asked : (n all : ℕ) → n ≡ counted b a → all ≡ most a → Decides (Unused (words_of b) (first + wide * n) (first + wide * all)) r → Decides (Blank b a) r
    blank_asked n all c m = rw (f, w, c, m) (decides_as (blank_there b a) (blank_back b a))
