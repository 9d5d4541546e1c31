-- Signed 32-bit numbers and their two words: "a signed 32-bit number", "(a low word, b high word, two's complement)".
use Rattle.std.specs.Prelude.{ℕ, ◌+◌, ◌*◌, ◌-◌, ◌/◌, ◌%◌, ◌<◌, Bool, true, false, ltb, ℤ, pos, negsuc}
use Rattle.std.specs.Int.Signed.{mag}
use Rattle.words.specs.Word.{WORD}

-- Half of the numbers that two words have, and the last of them.
abbrev pub HALF : ℕ
HALF = 2147483648

abbrev pub LAST : ℕ
LAST = 4294967295

-- -2,147,483,648 to 2,147,483,647. (`mag` is n both of n and of -(n + 1).)
abbrev pub InRange : ℤ → Type 0
InRange z = mag z < HALF

abbrev pub range_test : ℤ → Bool
range_test z = ltb (mag z) HALF

-- The number that two's complement has for n, which is below HALF or not.
abbrev pub complement : Bool → ℕ → ℤ
complement true n = pos n
complement false n = negsuc (LAST - n)

-- The number of a low and a high word.
unfoldable pub integer : ℕ → ℕ → ℤ
integer low high = let n = low + high * WORD in complement (ltb n HALF) n

-- The other way round: what two's complement has for a number, and its words.
abbrev pub bits_of : ℤ → ℕ
bits_of (pos n) = n
bits_of (negsuc n) = LAST - n

unfoldable pub low_word : ℤ → ℕ
low_word z = bits_of z % WORD

unfoldable pub high_word : ℤ → ℕ
high_word z = bits_of z / WORD
