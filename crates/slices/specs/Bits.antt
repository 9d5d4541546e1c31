-- Bits of numbers.
use Rattle.std.specs.Prelude.{ℕ, ◌/◌, ◌%◌, ◌^◌, Bool, true, false}

-- 1 for true, 0 for false.
abbrev pub flag_of : Bool → ℕ
flag_of true = 1
flag_of false = 0

-- Bit k of a number.
unfoldable pub bit_of : ℕ → ℕ → ℕ
bit_of m k = m / 2 ^ k % 2
