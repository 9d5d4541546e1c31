-- What a type number is declared as, and the rows of interfaces while they are filled.
use Rattle.std.specs.Prelude.{ℕ, suc, ◌+◌, ◌%◌, ◌^◌, ◌<◌, max, ◌≡◌, List, length, get_or, set}
use Rattle.std.specs.Int.Bits.{bit_or}
use Rattle.limits.specs.Limits.{INTERFACES}
use Rattle.script.specs.declared.Section.TheVariants.{Interfaces as interfaces, Classes as classes}
use Rattle.script.specs.Section.{count_of}
use Rattle.script.specs.Syntax.{Declaration, a_unit, an_interface, a_class, an_int, no_type, declaration_at}
use Rattle.script.specs.Reading.{program_of}
use Rattle.subtypes.specs.declared.Declared.{Declared}
use Rattle.subtypes.specs.declared.Declared.TheVariants.{Interface as is_interface, Class as is_class, Neither as is-neither}
use Rattle.subtypes.specs.Tables.{BITS, STARTS, row_word, row_bit, RowIs}

-- Neither an interface nor a class.
abbrev pub Memberless : Declaration → Type 0
Memberless a_unit = Unit {0}
Memberless (an_interface i) = ⊥
Memberless (a_class c) = ⊥
Memberless an_int = Unit {0}
Memberless no_type = Unit {0}

-- What a type number is, as the code says it: the interface or the class of a record, or neither.
pub data DeclaredAs (s : List ℕ) (t : ℕ) : Declared → Type 0 where
  as_interface : {i : ℕ} → i < count_of s interfaces → t ≡ suc i → DeclaredAs s t (is_interface i)
  as_class : {c : ℕ} → c < count_of s classes → t ≡ suc (count_of s interfaces + c) → DeclaredAs s t (is_class c)
  as_neither : Memberless (declaration_at (program_of s) t) → DeclaredAs s t is-neither

-- The row of an interface while rows are filled: it has no bit, or the interface has been walked.
pub data RowState (s table : List ℕ) (i : ℕ) : Type 0 where
  no_bit : ((k : ℕ) → k < INTERFACES → row_bit table i k ≡ 0) → RowState s table i
  filled_row : RowIs s table i → RowState s table i

pub record Rows (s table : List ℕ) : Type 0 where
  pub size : length table ≡ STARTS
  pub states : (i : ℕ) → i < count_of s interfaces → RowState s table i

-- The interface of record i has been walked, and those that were before.
pub record Climbed (s before after : List ℕ) (i : ℕ) : Type 0 where
  pub rows : Rows s after
  pub row : RowIs s after i
  pub kept : (j : ℕ) → j < count_of s interfaces → RowIs s before j → RowIs s after j

-- The bits of row i are those of the rows l and r, and no other row has changed.
pub record RowJoined (before after : List ℕ) (i l r : ℕ) : Type 0 where
  pub size : length after ≡ length before
  pub bits : (k : ℕ) → k < INTERFACES → row_bit after i k ≡ max (row_bit before l k) (row_bit before r k)
  pub others : (j k : ℕ) → k < INTERFACES → (j ≡ i → ⊥) → row_bit after j k ≡ row_bit before j k

-- The table with bit i of row i, which marks the interface as walked.
abbrev pub with_own_bit : List ℕ → ℕ → List ℕ
with_own_bit table i = set table (row_word i i) (bit_or (get_or table (row_word i i) 0) (2 ^ (i % BITS)))
