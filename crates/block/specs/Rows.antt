-- Records as rows of words in a fixed place. "bytes with no meaning are 0"
use Rattle.std.specs.Prelude.{ℕ, zero, suc, List, [], ◌∷◌, get_or}

-- Exactly n words: those of the list, and zeros after them.
unfoldable pub filled : ℕ → List ℕ → List ℕ
filled zero ws = []
filled (suc n) [] = 0 ∷ filled n []
filled (suc n) (w ∷ ws) = w ∷ filled n ws

-- Word j of a row, and of row i; 0 where there is no such word.
abbrev pub word_of : List ℕ → ℕ → ℕ
word_of r j = get_or r j 0

abbrev pub cell : List (List ℕ) → ℕ → ℕ → ℕ
cell rows i j = word_of (get_or rows i []) j
