-- Words written one after another.
use mathlib.Core.Path.{◌≡◌, sym, ap, ◌∙◌}
use mathlib.Core.List.{List, [], ◌∷◌, ◌++◌, append_assoc}
use Prim.Native.Nat.{ℕ, ◌+◌, ◌*◌, ◌/◌, ◌%◌, ◌≤◌}
use native.Mathlib.Omega.{arith}
use native.Mathlib.Numerals.{add-one}
use lib.ListN.{length, take, drop, length-append, length-drop, take-append-drop}
use lib.Seq.{length-take-le, take_at, drop-append-add, drop-drop, sets-eq}
use Rattle.words.specs.Word.{bytes}
use Rattle.words.proofs.Laws.{length_bytes, bytes_append}
use Rattle.slices.specs.Put.{put_word}
use Rattle.row_bytes.specs.Written.{written}

-- no word, and one
pub written_none : (s : List ℕ) (at : ℕ) → written s at [] ≡ s
unfolding written bytes
written_none s at = let e : at + 2 * 0 ≡ at = omega arith in rw e (take-append-drop at s)

written_one : (s : List ℕ) (at v : ℕ) → at + 2 ≤ length s → put_word s at v ≡ written s at (v ∷ [])
unfolding put_word written bytes
written_one s at v h = rw add-one (sets-eq (v % 256 ∷ v / 256 ∷ []) s at h ∙ append_assoc (take at s) (v % 256 ∷ v / 256 ∷ []) (drop (at + 2) s))

pub length_written : (s : List ℕ) (at : ℕ) (ws : List ℕ) → at + 2 * length ws ≤ length s → length (written s at ws) ≡ length s
unfolding written
length_written s at ws h =
    let t : length (take at s) ≡ at = length-take-le at s (omega arith) in
    simp (length-append, length_bytes, length-drop) (omega arith)

-- words behind words
pub written_more :
    (s : List ℕ) (at : ℕ) (us vs : List ℕ)
    → at + 2 * length us + 2 * length vs ≤ length s
    → written (written s at us) (at + 2 * length us) vs ≡ written s at (us ++ vs)
unfolding written
written_more s at us vs h =
    let n : ℕ = at + 2 * length us in
    let p : List ℕ = take at s ++ bytes us in
    let t : length (take at s) ≡ at = length-take-le at s (omega arith) in
    let l : length p ≡ n = omega (arith, length-append (take at s) (bytes us), length_bytes us) in
    let e : take at s ++ (bytes us ++ drop n s) ≡ p ++ drop n s = sym (append_assoc (take at s) (bytes us) (drop n s)) in
    let a : take n (p ++ drop n s) ≡ p = take_at p (drop n s) n l in
    let b : drop (n + 2 * length vs) (p ++ drop n s) ≡ drop (n + 2 * length vs) s =
    ap (λ (k : ℕ). drop (k + 2 * length vs) (p ++ drop n s)) (sym l) ∙ drop-append-add p (drop n s) (2 * length vs) ∙ drop-drop (2 * length vs) n s
    in
    let m : at + 2 * length (us ++ vs) ≡ n + 2 * length vs = omega (arith, length-append us vs) in
    rw (e, a, b, m, bytes_append us vs) (append_assoc (take at s) (bytes us) (bytes vs ++ drop (n + 2 * length vs) s) ∙ ap (λ (l : List ℕ). take at s ++ l) (sym (append_assoc (bytes us) (bytes vs) (drop (n + 2 * length vs) s))))

-- the words of rows
pub pair_put : (s : List ℕ) (at a b : ℕ) {t u : List ℕ} → at + 4 ≤ length s → t ≡ put_word s at a → u ≡ put_word t (at + 2) b → u ≡ written s at (a ∷ b ∷ [])
pair_put s at a b h p q =
    q ∙ rw (p, written_one s at a (omega arith), written_one (written s at (a ∷ [])) (at + 2) b (omega (arith, length_written s at (a ∷ []) (omega arith)))) (written_more s at (a ∷ []) (b ∷ []) (omega arith))

pub three_put : (s : List ℕ) (at a b c : ℕ) {t u : List ℕ} → at + 6 ≤ length s → t ≡ written s at (a ∷ b ∷ []) → u ≡ put_word t (at + 4) c → u ≡ written s at (a ∷ b ∷ c ∷ [])
three_put s at a b c h p q =
    q ∙ rw (p, written_one (written s at (a ∷ b ∷ [])) (at + 4) c (omega (arith, length_written s at (a ∷ b ∷ []) (omega arith)))) (written_more s at (a ∷ b ∷ []) (c ∷ []) (omega arith))

pub four_put : (s : List ℕ) (at a b c d : ℕ) {t u : List ℕ} → at + 8 ≤ length s → t ≡ written s at (a ∷ b ∷ []) → u ≡ written t (at + 4) (c ∷ d ∷ []) → u ≡ written s at (a ∷ b ∷ c ∷ d ∷ [])
four_put s at a b c d h p q = q ∙ rw p (written_more s at (a ∷ b ∷ []) (c ∷ d ∷ []) (omega arith))
