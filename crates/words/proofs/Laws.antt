-- Laws of words in bytes: a list of words is read word by word.
use mathlib.Core.Path.{◌≡◌, refl, sym, ap, ◌∙◌}
use mathlib.Core.List.{List, [], ◌∷◌, ◌++◌}
use Prim.Native.Nat.{ℕ, zero, suc, ◌+◌, ◌*◌, ◌/◌, ◌%◌}
use native.Mathlib.Omega.{arith}
use lib.ListN.{length, get_or}
use Rattle.words.specs.Word.{word_at, bytes}

word_skip : (a b : ℕ) (r : List ℕ) (at : ℕ) → word_at (a ∷ b ∷ r) (suc (suc at)) ≡ word_at r at
unfolding word_at
word_skip a b r at = let e : suc (suc at) + 1 ≡ suc (suc (at + 1)) = omega arith in ap (λ (k : ℕ). get_or r at 0 + get_or (a ∷ b ∷ r) k 0 * 256) e

pub twice_suc : (i : ℕ) → 2 * suc i ≡ suc (suc (2 * i))
twice_suc i = omega arith

-- word `i` of a list of words, read from the bytes
pub word_bytes : (ws : List ℕ) (i : ℕ) → word_at (bytes ws) (2 * i) ≡ get_or ws i 0
unfolding word_at bytes
word_bytes [] i = refl
word_bytes (w ∷ ws) zero = omega arith
word_bytes (w ∷ ws) (suc i) = ap (word_at (bytes (w ∷ ws))) (twice_suc i) ∙ word_skip _ _ (bytes ws) (2 * i) ∙ word_bytes ws i

pub length_bytes : (ws : List ℕ) → length (bytes ws) ≡ 2 * length ws
unfolding bytes
length_bytes [] = refl
length_bytes (w ∷ ws) = ap (λ (k : ℕ). suc (suc k)) (length_bytes ws) ∙ sym (twice_suc (length ws))

pub bytes_append : (us vs : List ℕ) → bytes (us ++ vs) ≡ bytes us ++ bytes vs
unfolding bytes
bytes_append [] vs = refl
bytes_append (w ∷ us) vs = ap (λ (l : List ℕ). w % 256 ∷ w / 256 ∷ l) (bytes_append us vs)
