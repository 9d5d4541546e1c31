-- A word put into the bytes of a list of words.
use mathlib.Core.Path.{◌≡◌, refl, ap, ◌∙◌}
use mathlib.Core.List.{List, [], ◌∷◌}
use Prim.Native.Nat.{ℕ, zero, suc, ◌+◌, ◌*◌, ◌/◌, ◌%◌}
use native.Mathlib.Omega.{arith}
use lib.ListN.{set}
use Rattle.words.specs.Word.{bytes}
use Rattle.words.proofs.Laws.{twice_suc}
use Rattle.slices.specs.Put.{put_word}

put_skip : (a b : ℕ) (r : List ℕ) (at v : ℕ) → put_word (a ∷ b ∷ r) (suc (suc at)) v ≡ a ∷ b ∷ put_word r at v
unfolding put_word
put_skip a b r at v = let e : suc (suc at) + 1 ≡ suc (suc (at + 1)) = omega arith in ap (λ (k : ℕ). set (a ∷ b ∷ set r at (v % 256)) k (v / 256)) e

-- word `i` set, written to the bytes
pub put_bytes : (ws : List ℕ) (i v : ℕ) → put_word (bytes ws) (2 * i) v ≡ bytes (set ws i v)
unfolding put_word bytes
put_bytes [] i v = refl
put_bytes (w ∷ ws) zero v = refl
put_bytes (w ∷ ws) (suc i) v =
    ap (λ (k : ℕ). put_word (bytes (w ∷ ws)) k v) (twice_suc i) ∙ put_skip _ _ (bytes ws) (2 * i) v
    ∙ ap (λ (l : List ℕ). w % 256 ∷ w / 256 ∷ l) (put_bytes ws i v)
