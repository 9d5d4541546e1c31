-- Rows of bits: what writes do to them, and what they tell of interfaces.
use mathlib.Core.Path.{◌≡◌, refl, sym, ap, ◌∙◌}
use mathlib.Core.Bool.{Bool, true, false, ◌||◌}
use mathlib.Core.List.{List}
use Prim.Native.Nat.{ℕ, suc, ◌+◌, ◌*◌, ◌-◌, ◌/◌, ◌%◌, ◌^◌, ◌<◌, ◌≤◌, max}
use native.Mathlib.Omega.{arith}
use lib.Bits.{bit_or}
use lib.Dec.{eqb}
use lib.ListN.{length, get_or, set, length-set}
use lib.Pow.{shl_exact}
use lib.Seq.{get_or-set_same, get_or-set_other}
use borrow.Author.Tests.{eqb-true, eqb-false}
use Rattle.limits.specs.Limits.{INTERFACES}
use Rattle.slices.specs.Bits.{flag_of, bit_of}
use Rattle.slices.specs.Zero.{AllZero}
use Rattle.slices.proofs.Bits.{bit_or_lem, bit_zero, bit_same, bit_other, bit_small, flag_or}
use Rattle.script.specs.declared.Section.TheVariants.{Interfaces as interfaces}
use Rattle.script.specs.Section.{count_of, record_word}
use Rattle.script.specs.Reading.{program_of}
use Rattle.script.specs.Statements.{Earlier, WithinLayout}
use Rattle.typing.specs.Members.{reach}
use Rattle.subtypes.specs.Tables.{BITS, ROW, RUNS, STARTS, row_word, row_bit, RowIs, RowsTo, Starts}
use Rattle.subtypes.specs.Subtypes.{RowState, no_bit, filled_row, Rows, Climbed, RowJoined, with_own_bit}
use Rattle.subtypes.proofs.SubtypeLaws.{leads_itself, leads_list, leads_join}

-- One word has bits of one row only, and in it a bit has one place.
same_word : (i j k m : ℕ) → k < INTERFACES → m < INTERFACES → row_word i k ≡ row_word j m → (i ≡ j) × (k / BITS ≡ m / BITS)
same_word i j k m h g e = (omega arith, omega arith)

word_within : (table : List ℕ) (i k : ℕ) → length table ≡ STARTS → i < INTERFACES → k < INTERFACES → row_word i k < length table
word_within table i k e h g = omega arith

-- The mark of an interface changes no other bit.
module _ (table : List ℕ) (i : ℕ) (size : length table ≡ STARTS) (h : i < INTERFACES) where
  abbrev own : ℕ
  own = get_or table (row_word i i) 0

  pub marked_bit : set table (row_word i i) (bit_or own ((1 * 2 ^ (i % BITS)) % 2 ^ BITS)) ≡ with_own_bit table i
  marked_bit =
      let e : 1 * 2 ^ (i % BITS) ≡ 2 ^ (i % BITS) = omega arith in
      ap (λ (b : ℕ). set table (row_word i i) (bit_or own b)) (shl_exact {a = 1} 1 (i % BITS) BITS (omega arith) (omega arith) ∙ e)

  marked_word : get_or (with_own_bit table i) (row_word i i) 0 ≡ bit_or own (1 * 2 ^ (i % BITS))
  marked_word =
      let e : 2 ^ (i % BITS) ≡ 1 * 2 ^ (i % BITS) = omega arith in
      get_or-set_same table (row_word i i) _ 0 (word_within table i i size h h) ∙ ap (bit_or own) e

  pub marked_own : row_bit (with_own_bit table i) i i ≡ 1
  marked_own =
      rw marked_word
      (bit_or_lem own (1 * 2 ^ (i % BITS)) (i % BITS) ∙ omega (arith, bit_same (i % BITS), bit_small own (i % BITS)))

  pub marked_other : (j k : ℕ) → k < INTERFACES → ((j ≡ i) × (k ≡ i) → ⊥) → row_bit (with_own_bit table i) j k ≡ row_bit table j k
  marked_other j k g n = go (eqb (row_word j k) (row_word i i)) refl
    where
      go : (b : Bool) → eqb (row_word j k) (row_word i i) ≡ b → row_bit (with_own_bit table i) j k ≡ row_bit table j k
      go true e =
          let q = eqb-true (row_word j k) (row_word i i) e in
          let z = same_word j i k i g h q in
          let off = bit_other (i % BITS) (k % BITS) (λ y. n (z.0, omega (arith, z.1))) in
          rw (q, marked_word) (bit_or_lem own (1 * 2 ^ (i % BITS)) (k % BITS) ∙ omega (arith, off))
      go false e = ap (λ (x : ℕ). bit_of x (k % BITS)) (get_or-set_other table (row_word i i) (row_word j k) _ 0 (eqb-false (row_word j k) (row_word i i) e))

-- Row i gets the bits of the rows l and r word by word.
pub record Joining (before table : List ℕ) (i l r w : ℕ) : Type 0 where
  pub size : length table ≡ length before
  pub bits : (k : ℕ) → k < INTERFACES → k / BITS < w → row_bit table i k ≡ max (row_bit before l k) (row_bit before r k)
  pub others : (j k : ℕ) → k < INTERFACES → (j ≡ i → ⊥) → row_bit table j k ≡ row_bit before j k

pub joins_none : (before : List ℕ) (i l r : ℕ) → Joining before before i l r 0
joins_none before i l r = record { size = refl; bits = λ k h g. absurd (omega arith); others = λ j k h n. refl }

module _ (before table : List ℕ) (i l r w : ℕ) (size : length before ≡ STARTS) (h : i < INTERFACES) (p : l < i) (q : r < i) where
  abbrev bits_of : ℕ
  bits_of = bit_or (get_or table (RUNS + l * ROW + w) 0) (get_or table (RUNS + r * ROW + w) 0)

  pub joins_more : w < ROW → Joining before table i l r w → Joining before (set table (RUNS + i * ROW + w) bits_of) i l r (w + 1)
  joins_more g x =
      record {
        size = length-set table (RUNS + i * ROW + w) bits_of ∙ x.size;
        bits = λ k b c. go k b c (eqb (k / BITS) w) refl;
        others = λ j k b n. ap (λ (v : ℕ). bit_of v (k % BITS)) (get_or-set_other table (RUNS + i * ROW + w) (row_word j k) bits_of 0 (omega arith)) ∙ x.others j k b n;
      }
    where
      go : (k : ℕ) → k < INTERFACES → k / BITS < w + 1 → (b : Bool) → eqb (k / BITS) w ≡ b → row_bit (set table (RUNS + i * ROW + w) bits_of) i k ≡ max (row_bit before l k) (row_bit before r k)
      go k b c true e =
          let y = eqb-true (k / BITS) w e in
          let at : row_word i k ≡ RUNS + i * ROW + w = omega arith in
          let left : RUNS + l * ROW + w ≡ row_word l k = omega arith in
          let right : RUNS + r * ROW + w ≡ row_word r k = omega arith in
          rw (at, get_or-set_same table (RUNS + i * ROW + w) bits_of 0 (omega (arith, x.size)), left, right)
          (bit_or_lem (get_or table (row_word l k) 0) (get_or table (row_word r k) 0) (k % BITS) ∙ rw (x.others l k b (omega arith), x.others r k b (omega arith)))
      go k b c false e =
          ap (λ (v : ℕ). bit_of v (k % BITS)) (get_or-set_other table (RUNS + i * ROW + w) (row_word i k) bits_of 0 (λ z. eqb-false (k / BITS) w e (omega arith)))
          ∙ x.bits k b (omega (arith, eqb-false (k / BITS) w e))

pub joins_all : {before table : List ℕ} {i l r w : ℕ} → ROW ≤ w → Joining before table i l r w → RowJoined before table i l r
joins_all g x = record { size = x.size; bits = λ k h. x.bits k h (omega arith); others = x.others }

-- No row has a bit in a table of zeros.
pub no_rows : {s : List ℕ} (table : List ℕ) → length table ≡ STARTS → AllZero table → Rows s table
no_rows table size z = record { size = size; states = λ i h. no_bit (λ k g. rw (z.zero (row_word i k)) (bit_zero (k % BITS))) }

module _ {s : List ℕ} (w : WithinLayout s) (i : ℕ) (h : i < count_of s interfaces) where
  small : i < INTERFACES
  small = omega (arith, w.counts_are.within interfaces)

  -- A row that has its own bit has been walked.
  pub row_there : (rows : List ℕ) (b : Bool) → Rows s rows → flag_of b ≡ row_bit rows i i → b ≡ true → Climbed s rows rows i
  row_there rows b x e y = record { rows = x; row = go (x.states i h); kept = λ j l z. z }
    where
      go : RowState s rows i → RowIs s rows i
      go (no_bit z) = absurd (let q : flag_of true ≡ 0 = rw y at (e ∙ z i small) in omega arith)
      go (filled_row r) = r

  row_blank : (rows : List ℕ) (b : Bool) → Rows s rows → flag_of b ≡ row_bit rows i i → b ≡ false → (k : ℕ) → k < INTERFACES → row_bit rows i k ≡ 0
  row_blank rows b x e y = go (x.states i h)
    where
      go : RowState s rows i → (k : ℕ) → k < INTERFACES → row_bit rows i k ≡ 0
      go (no_bit z) = z
      go (filled_row r) = absurd (let q : flag_of false ≡ flag_of true = (rw y at (e ∙ r i small)) ∙ ap flag_of (leads_itself w i (suc i) h refl) in omega arith)

  -- One row is written.
  row_more :
      (before after : List ℕ) → Rows s before → length after ≡ STARTS → RowIs s after i
      → ((j k : ℕ) → k < INTERFACES → (j ≡ i → ⊥) → row_bit after j k ≡ row_bit before j k)
      → Climbed s before after i
  row_more before after x size row others =
      record {
        rows = record { size = size; states = λ j l. state j (x.states j l) (eqb j i) refl };
        row = row;
        kept = λ j l r. keep j r (eqb j i) refl;
      }
    where
      keep : (j : ℕ) → RowIs s before j → (b : Bool) → eqb j i ≡ b → RowIs s after j
      keep j r true e = rw (eqb-true j i e) row
      keep j r false e = λ k g. others j k g (eqb-false j i e) ∙ r k g

      state : (j : ℕ) → RowState s before j → (b : Bool) → eqb j i ≡ b → RowState s after j
      state j x true e = rw (eqb-true j i e) (filled_row row)
      state j (no_bit z) false e = no_bit (λ k g. others j k g (eqb-false j i e) ∙ z k g)
      state j (filled_row r) false e = filled_row (λ k g. others j k g (eqb-false j i e) ∙ r k g)

  -- The row with its mark tells what its other bits told.
  row_marked :
      (rows : List ℕ) → length rows ≡ STARTS
      → ((k : ℕ) → k < INTERFACES → (suc i ≡ suc k → ⊥) → row_bit rows i k ≡ flag_of (reach (program_of s) (suc i) (suc k)))
      → RowIs s (with_own_bit rows i) i
  row_marked rows size bits k g = go (eqb k i) refl
    where
      go : (b : Bool) → eqb k i ≡ b → row_bit (with_own_bit rows i) i k ≡ flag_of (reach (program_of s) (suc i) (suc k))
      go true e = let q = eqb-true k i e in rw (q, leads_itself w i (suc i) h refl) (marked_own rows i size small)
      go false e = let n = eqb-false k i e in marked_other rows i size small i k g (λ z. n z.1) ∙ bits k g (λ z. n (omega arith))

  marked_rows : (rows : List ℕ) → length rows ≡ STARTS → (j k : ℕ) → k < INTERFACES → (j ≡ i → ⊥) → row_bit (with_own_bit rows i) j k ≡ row_bit rows j k
  marked_rows rows size j k g n = marked_other rows i size small j k g (λ z. n z.0)

  module _ (form : ℕ) (f : form ≡ record_word s interfaces i 0) where
    pub walked_list : (rows : List ℕ) (b : Bool) → Rows s rows → flag_of b ≡ row_bit rows i i → b ≡ false → (form ≡ 1 → ⊥) → Climbed s rows (with_own_bit rows i) i
    walked_list rows b x e y n =
        row_more rows (with_own_bit rows i) x (length-set rows (row_word i i) _ ∙ x.size)
        (row_marked rows x.size (λ k g off. row_blank rows b x e y k g ∙ sym (ap flag_of (leads_list w i (suc k) h off (rw f at n)))))
        (marked_rows rows x.size)

    pub walked_join :
        (a b : ℕ) (rows left right joined : List ℕ) → form ≡ 1 → a ≡ record_word s interfaces i 1 → b ≡ record_word s interfaces i 2 → Earlier i a → Earlier i b
        → Climbed s rows left (a - 1) → Climbed s left right (b - 1) → RowJoined right joined i (a - 1) (b - 1)
        → Climbed s rows (with_own_bit joined i) i
    walked_join a b rows left right joined one p q early late x y z =
        let size : length joined ≡ STARTS = z.size ∙ y.rows.size in
        let all = row_more right (with_own_bit joined i) y.rows (length-set joined (row_word i i) _ ∙ size) (row_marked joined size told) (λ j k g n. marked_rows joined size j k g n ∙ z.others j k g n) in
        record { rows = all.rows; row = all.row; kept = λ j l r. all.kept j l (y.kept j l (x.kept j l r)) }
      where
        told : (k : ℕ) → k < INTERFACES → (suc i ≡ suc k → ⊥) → row_bit joined i k ≡ flag_of (reach (program_of s) (suc i) (suc k))
        told k g off =
            let u : suc (a - 1) ≡ a = omega (arith, early.first) in
            let v : suc (b - 1) ≡ b = omega (arith, late.first) in
            let above : row_bit right (a - 1) k ≡ flag_of (reach (program_of s) a (suc k)) = rw u at (y.kept (a - 1) (omega (arith, early.first, early.before)) x.row k g) in
            let beside : row_bit right (b - 1) k ≡ flag_of (reach (program_of s) b (suc k)) = rw v at (y.row k g) in
            let joins : reach (program_of s) a (suc k) || reach (program_of s) b (suc k) ≡ reach (program_of s) (suc i) (suc k) = rw (p, q) (leads_join w i (suc k) h off (sym f ∙ one)) in
            z.bits k g ∙ rw (above, beside) (flag_or (reach (program_of s) a (suc k)) (reach (program_of s) b (suc k))) ∙ ap flag_of joins

-- One row more is filled.
pub rows_more : {s before after : List ℕ} (i : ℕ) → i < count_of s interfaces → Climbed s before after (i + 1 - 1) → RowsTo s before i → RowsTo s after (i + 1)
rows_more {s} {before} {after} i h x all j l = go (eqb j i) refl
  where
    go : (b : Bool) → eqb j i ≡ b → RowIs s after j
    go true e = let q : i + 1 - 1 ≡ j = omega (arith, eqb-true j i e) in rw q at x.row
    go false e = let n = eqb-false j i e in x.kept j (omega arith) (all j (omega arith))

-- What a row tells of an interface, by its bit.
module _ {s : List ℕ} (table : List ℕ) (x : Starts s table) (i u : ℕ) (h : i < count_of s interfaces) where
  pub tells_bit : (b : Bool) → (u ≡ 0 → ⊥) → u - 1 < INTERFACES → flag_of b ≡ row_bit table i (u - 1) → b ≡ reach (program_of s) (suc i) u
  tells_bit b n l e = let q : suc (u - 1) ≡ u = omega arith in same b _ (e ∙ (rw q at (x.rows i h (u - 1) l)))
    where
      same : (a c : Bool) → flag_of a ≡ flag_of c → a ≡ c
      same true true z = refl
      same true false z = absurd (omega arith)
      same false true z = absurd (omega arith)
      same false false z = refl
