-- Records of a section whose words stand in a file one after the other: their lengths, and what owners say of them.
use mathlib.Core.Path.{◌≡◌, refl}
use mathlib.Core.List.{List, [], ◌∷◌, ◌++◌}
use Prim.Native.Nat.{ℕ, suc, ◌+◌, ◌*◌}
use native.Mathlib.Omega.{arith}
use native.Mathlib.Numerals.{add-one}
use lib.ListN.{length, length-append}
use Rattle.script.specs.declared.Section.{Section}
use Rattle.script.specs.Lists.{sum_below}
use Rattle.script.specs.Section.{size_of, body_at, record_at}
use Rattle.grammar.specs.Files.{words_all, sum_all, joined}
use Rattle.texts.proofs.Held.{Held, held_front, held_back}

-- Words of as many records as there are, if each has so many.
pub length_rows : {A : Type 0} (f : A → List ℕ) (width : ℕ) → ((a : A) → length (f a) ≡ width) → (l : List A) → length (words_all f l) ≡ width * length l
unfolding words_all
length_rows f width each [] = omega arith
length_rows f width each (a ∷ l) = simp length-append (omega (arith, each a, length_rows f width each l))

pub length_joined : {A B : Type 0} (f : A → List B) (l : List A) → sum_all (λ a. length (f a)) l ≡ length (joined f l)
unfolding sum_all joined
length_joined f [] = refl
length_joined f (a ∷ l) = simp length-append (omega (arith, length_joined f l))

module _ (s : List ℕ) (k : Section) where
  pub first_record : {ws : List ℕ} → Held s (body_at s k) ws → Held s (record_at s k 0) ws
  unfolding record_at
  first_record h = let e : body_at s k + size_of k * 0 ≡ body_at s k = omega arith in rw e h

  -- Behind the words of m records stand those of the next ones.
  pub next_record : (i m : ℕ) (u v : List ℕ) → 2 * length u ≡ size_of k * m → Held s (record_at s k i) (u ++ v) → Held s (record_at s k (i + m)) v
  unfolding record_at
  next_record i m u v e h =
      let p : body_at s k + size_of k * (i + m) ≡ body_at s k + size_of k * i + 2 * length u = omega arith in
      rw p (held_back s (body_at s k + size_of k * i) u v h)

  -- What the owners of other records say adds up.
  module _ {A : Type 0} (f : A → List ℕ) (g : A → ℕ) (own : ℕ → ℕ)
      (size : (a : A) → 2 * length (f a) ≡ size_of k * 1)
      (says : (i : ℕ) (a : A) → Held s (record_at s k i) (f a) → own i ≡ g a) where
    owned_from : (l : List A) (i : ℕ) → Held s (record_at s k i) (words_all f l) → sum_below own (i + length l) ≡ sum_below own i + sum_all g l
    unfolding words_all sum_all sum_below
    owned_from [] i h = let e : i + 0 ≡ i = omega arith in rw e (omega arith)
    owned_from (a ∷ l) i h =
        let e : i + suc (length l) ≡ i + 1 + length l = omega arith in
        let first : own i ≡ g a = says i a (held_front s (record_at s k i) (f a) (words_all f l) h) in
        let rest = owned_from l (i + 1) (next_record i 1 (f a) (words_all f l) (size a) h) in
        rw (e, rest, add-one i) (omega arith)

    pub owned : (l : List A) → Held s (body_at s k) (words_all f l) → sum_below own (length l) ≡ sum_all g l
    unfolding sum_below
    owned l h =
        let e : 0 + length l ≡ length l = omega arith in
        let z : 0 + sum_all g l ≡ sum_all g l = omega arith in
        rw (e, z) at (owned_from l 0 (first_record h))
