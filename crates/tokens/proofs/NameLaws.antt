-- Names compared and hashed, and the value of digits, one byte at a time.
use Prim.Native.Nat.{ℕ, suc, ◌+◌, ◌-◌, ◌*◌, ◌%◌, ◌≤◌, ◌<◌}
use native.Mathlib.Omega.{arith}
use mathlib.Core.Path.{◌≡◌, refl, sym, ◌∙◌, ap}
use mathlib.Core.Bool.{Bool, true, false, ◌&&◌}
use mathlib.Core.List.{List, [], ◌∷◌}
use lib.Dec.{eqb, ltb, leb}
use borrow.Author.Tests.{ltb-true, ltb-false, eq-eqb, ne_eqb, le-leb, lt-leb, leb-true}
use lib.ListN.{length, get_or, drop}
use Rattle.grammar.specs.Tokens.{Spelling, same_spelling, word_byte_test, digit_test, decimal_from}
use Rattle.grammar.proofs.Splitting.{within}
use Rattle.tokens.specs.Runs.{word_from, digits_from, HASHES, hash_from, BEYOND, capped}
use Rattle.word_kinds.proofs.RunLaws.{run_on, run_stops, run_ends}

-- A word that has bytes stands before the text's end, and goes on with the next byte's word.
pub record Word (text : List ℕ) (i : ℕ) : Type 0 where
  pub inside : i < length text
  pub byte : word_byte_test (get_or text i 0) ≡ true
  pub goes : word_from (drop i text) ≡ get_or text i 0 ∷ word_from (drop (i + 1) text)

pub word_there : (text : List ℕ) (i : ℕ) → 0 < length (word_from (drop i text)) → Word text i
word_there text i h = go (ltb i (length text)) (word_byte_test (get_or text i 0)) refl refl
  where
    go : (u t : Bool) → ltb i (length text) ≡ u → word_byte_test (get_or text i 0) ≡ t → Word text i
    go true true l e = let m = ltb-true i (length text) l in record { inside = m; byte = e; goes = run_on word_byte_test text i m e }
    go true false l e = absurd (omega (arith, ap length (run_stops word_byte_test text i (ltb-true i (length text) l) e)))
    go false t l e = absurd (omega (arith, ap length (run_ends word_byte_test text i (ltb-false i (length text) l))))

-- Spellings of different lengths are not the same.
pub sizes_differ : (v w : Spelling) → (length v ≡ length w → ⊥) → same_spelling v w ≡ false
unfolding same_spelling
sizes_differ [] [] n = absurd (n refl)
sizes_differ [] (c ∷ w) n = refl
sizes_differ (b ∷ v) [] n = refl
sizes_differ (b ∷ v) (c ∷ w) n = rw (sizes_differ v w (λ e. n (ap suc e))) (no_and (eqb b c))
  where
    no_and : (q : Bool) → (q && false) ≡ false
    no_and true = refl
    no_and false = refl

-- The words at two bytes, of which the second is known to have bytes: their first bytes differ, or are the same.
module _ (text : List ℕ) (i j : ℕ) (inside : i < length text) (word : Word text j) where
  pub same_not : (get_or text i 0 ≡ get_or text j 0 → ⊥) → same_spelling (word_from (drop i text)) (word_from (drop j text)) ≡ false
  unfolding same_spelling
  same_not n = go (word_byte_test (get_or text i 0)) refl
    where
      go : (t : Bool) → word_byte_test (get_or text i 0) ≡ t → same_spelling (word_from (drop i text)) (word_from (drop j text)) ≡ false
      go true e = rw (run_on word_byte_test text i inside e, word.goes, ne_eqb (get_or text i 0) (get_or text j 0) n) refl
      go false e = rw (run_stops word_byte_test text i inside e, word.goes) refl

  pub same_on :
      get_or text i 0 ≡ get_or text j 0
      → same_spelling (word_from (drop i text)) (word_from (drop j text)) ≡ same_spelling (word_from (drop (i + 1) text)) (word_from (drop (j + 1) text))
  unfolding same_spelling
  same_on e = rw (run_on word_byte_test text i inside (ap word_byte_test e ∙ word.byte), word.goes, eq-eqb (get_or text i 0) (get_or text j 0) e) refl

-- A hash and a value go on with the next byte.
pub hash_on :
    (text : List ℕ) (i h : ℕ)
    → i < length text
    → word_byte_test (get_or text i 0) ≡ true
    → hash_from h (word_from (drop i text)) ≡ hash_from ((h * 131 + get_or text i 0) % HASHES) (word_from (drop (i + 1) text))
unfolding hash_from
hash_on text i h l e = rw (run_on word_byte_test text i l e) refl

pub value_on :
    (text : List ℕ) (i n : ℕ)
    → i < length text
    → digit_test (get_or text i 0) ≡ true
    → decimal_from n (digits_from (drop i text)) ≡ decimal_from (n * 10 + (get_or text i 0 - 48)) (digits_from (drop (i + 1) text))
unfolding decimal_from
value_on text i n l e = rw (run_on digit_test text i l e) refl

pub hash_done : (h m : ℕ) (w : Spelling) → m ≡ hash_from h w → w ≡ [] → h ≡ m
unfolding hash_from
hash_done h m w p e = sym (p ∙ ap (hash_from h) e)

-- A value that is done, and one that has grown beyond every integer.
pub value_done : (n m : ℕ) (w : Spelling) → n < BEYOND → m ≡ decimal_from n w → w ≡ [] → n ≡ capped m
unfolding decimal_from capped
value_done n m w h p e = rw (p ∙ ap (decimal_from n) e, le-leb n BEYOND (omega arith)) refl

value_grows : (n : ℕ) (w : Spelling) → n ≤ decimal_from n w
unfolding decimal_from
value_grows n [] = omega arith
value_grows n (b ∷ w) = omega (arith, value_grows (n * 10 + (b - 48)) w)

pub value_beyond : (n m : ℕ) (w : Spelling) → BEYOND ≤ n → m ≡ decimal_from n w → BEYOND ≡ capped m
unfolding capped
value_beyond n m w h p = go (leb m BEYOND) refl
  where
    go : (t : Bool) → leb m BEYOND ≡ t → BEYOND ≡ capped m
    go true e = rw e (omega (arith, leb-true m BEYOND e, value_grows n w))
    go false e = rw e refl

pub digit_from : (b : ℕ) → digit_test b ≡ true → 48 ≤ b
digit_from b e = within b 48 e (λ h. rw (lt-leb 48 b h) refl)
