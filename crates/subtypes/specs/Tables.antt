-- The table that the code of look-ups is lent: where runs begin, and what each interface is at or below.
use Rattle.std.specs.Prelude.{ℕ, suc, ◌+◌, ◌*◌, ◌/◌, ◌%◌, ◌<◌, ◌≡◌, List, length, get_or}
use Rattle.limits.specs.Limits.{INTERFACES, CLASSES}
use Rattle.slices.specs.Bits.{flag_of, bit_of}
use Rattle.script.specs.declared.Section.TheVariants.{Interfaces as interfaces, Classes as classes}
use Rattle.script.specs.Lists.{sum_below}
use Rattle.script.specs.Section.{count_of}
use Rattle.script.specs.Reading.{own_signatures, own_fields, own_methods, program_of}
use Rattle.typing.specs.Members.{reach}

-- The bits of a word of the table, and the words of a row, which has a bit for each interface.
abbrev pub BITS : ℕ
BITS = 16

abbrev pub ROW : ℕ
ROW = 4

-- The words for runs, and with the rows of all interfaces.
abbrev pub RUNS : ℕ
RUNS = INTERFACES + CLASSES + CLASSES

abbrev pub STARTS : ℕ
STARTS = RUNS + INTERFACES * ROW

-- The word of the row of interface record i that has bit k, and that bit.
abbrev pub row_word : ℕ → ℕ → ℕ
row_word i k = RUNS + i * ROW + k / BITS

abbrev pub row_bit : List ℕ → ℕ → ℕ → ℕ
row_bit table i k = bit_of (get_or table (row_word i k) 0) (k % BITS)

-- The row of interface record i tells of each interface whether it is that one or above it.
abbrev pub RowIs : List ℕ → List ℕ → ℕ → Type 0
RowIs s table i = (k : ℕ) → k < INTERFACES → row_bit table i k ≡ flag_of (reach (program_of s) (suc i) (suc k))

-- The rows of the first n interfaces tell so.
abbrev pub RowsTo : List ℕ → List ℕ → ℕ → Type 0
RowsTo s table n = (i : ℕ) → i < n → RowIs s table i

-- Where the run of each owner begins: signatures of interface o at o, fields of class c at INTERFACES + c, methods of class c at INTERFACES + CLASSES + c.
-- Behind them the rows.
pub record Starts (s table : List ℕ) : Type 0 where
  pub size : length table ≡ STARTS
  pub rows : RowsTo s table (count_of s interfaces)
  pub signatures : (o : ℕ) → o < count_of s interfaces → get_or table o 0 ≡ sum_below (own_signatures s) o
  pub fields : (c : ℕ) → c < count_of s classes → get_or table (INTERFACES + c) 0 ≡ sum_below (own_fields s) c
  pub methods : (c : ℕ) → c < count_of s classes → get_or table (INTERFACES + CLASSES + c) 0 ≡ sum_below (own_methods s) c
