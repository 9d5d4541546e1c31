-- Buffers that do not fit, in one table: what the three calls then answer. `proofs/Lent.antt` has one theorem over it.
use Rattle.std.specs.Prelude.{ℕ, ◌≡◌, List, [], ◌∷◌, set, replicate}
use Rattle.machine.specs.Machine.{initial}
use Rattle.block.specs.Block.{encode}
use Rattle.calls.specs.Calls.{start_of, offer_of, run_of}

-- What is lent beside an accepted script where it does not fit: a block, Offer's flags and Run's choices; Start's number, and the block as Start leaves it; and
-- the number of Offer and Run.
pub record LentCase : Type 0 where
  pub block : List ℕ
  pub flags : List ℕ
  pub choices : List ℕ
  pub start : ℕ
  pub written : List ℕ
  pub number : ℕ

-- "A refusal returns its number and place, with every other number 0, and lent buffers unchanged", and the place is 0 "for questions 1 to 3, 5 and any about a
-- block, a choice list or another lent buffer".
pub record LentRefused (s : List ℕ) (x : LentCase) : Type 0 where
  pub started : start_of s x.block ≡ record { number = x.start; place = 0; block = x.written }
  pub offered : offer_of s x.block x.flags ≡ record { number = x.number; place = 0; block = x.block; flags = x.flags }
  pub ran : run_of s x.block x.choices ≡ record { number = x.number; place = 0; stop = 0; read = 0; moves = 0; block = x.block }

-- That many zeros, and the initial block with byte n changed to x.
unfoldable pub zeros : ℕ → List ℕ
zeros n = replicate n 0

unfoldable pub changed : ℕ → ℕ → List ℕ
changed n x = set (encode initial) n x

-- A block that does not fit beside buffers that do.
abbrev pub damaged_case : List ℕ → ℕ → LentCase
damaged_case b n = record { block = b; flags = zeros 63; choices = zeros 4096; start = 0; written = encode initial; number = n }

unfoldable pub lent_cases : List LentCase
lent_cases =
    -- "The block grows to 65,536 bytes, so question 20 asks that": one byte less or more, and as many as before
    record { block = zeros 65535; flags = zeros 63; choices = zeros 4096; start = 20; written = zeros 65535; number = 20 } ∷
    record { block = zeros 65537; flags = zeros 63; choices = zeros 4096; start = 20; written = zeros 65537; number = 20 } ∷
    record { block = zeros 49152; flags = zeros 63; choices = zeros 4096; start = 20; written = zeros 49152; number = 20 } ∷
    -- "Is the choice list at most 4,096 bytes (Run), or the flag buffer exactly 63 (Offer)? 22", which Start does not ask
    record { block = encode initial; flags = zeros 62; choices = zeros 4097; start = 0; written = encode initial; number = 22 } ∷
    record { block = encode initial; flags = zeros 64; choices = zeros 4097; start = 0; written = encode initial; number = 22 } ∷
    -- "21 now means objects": 512 of them; "26 bindings": 4,096; "27 frames, threads": 4,096 frames, 257 positions. Start asks none: "Start writes the initial
    -- block over anything"
    damaged_case (changed 1 2) 21 ∷
    damaged_case (changed 3 16) 26 ∷
    damaged_case (changed 5 16) 27 ∷
    damaged_case (changed 7 1) 27 ∷
    -- a block of zeros has no thread
    damaged_case (zeros 65536) 27 ∷
    -- "A byte with no meaning counts with the part whose area holds it": the first and the last byte of the objects and of the bindings, the last of the
    -- positions and of the frames
    damaged_case (changed 8 1) 21 ∷
    damaged_case (changed 13319 1) 21 ∷
    damaged_case (changed 13320 1) 26 ∷
    damaged_case (changed 37895 1) 26 ∷
    damaged_case (changed 38777 1) 27 ∷
    damaged_case (changed 51065 1) 27 ∷
    -- "else with 27": the first and the last byte past the areas
    damaged_case (changed 51066 1) 27 ∷
    damaged_case (changed 65535 1) 27 ∷
    -- "Objects are examined first, then bindings, then frames and threads": objects and bindings are bad, and bindings and the rest
    damaged_case (set (changed 37895 1) 13319 1) 21 ∷
    damaged_case (set (changed 65535 1) 37895 1) 26 ∷
    -- "Questions to a call, in order": 20 before 22, and 22 before the three
    record { block = zeros 65535; flags = zeros 62; choices = zeros 4097; start = 20; written = zeros 65535; number = 20 } ∷
    record { block = zeros 65536; flags = zeros 62; choices = zeros 4097; start = 0; written = encode initial; number = 22 } ∷
    []
