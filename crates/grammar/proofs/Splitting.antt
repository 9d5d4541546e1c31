-- The tokens of a text: that `tokens_from` splits it, and that nothing else does.
use Prim.Native.Nat.{ℕ, ◌+◌, ◌≤◌, ◌<◌}
use native.Mathlib.Nat.{add-zero}
use native.Mathlib.Omega.{arith}
use mathlib.Core.Path.{◌≡◌, refl, sym, ◌∙◌, ap}
use mathlib.Core.Bool.{Bool, true, false, not, ◌||◌, and-false}
use mathlib.Core.List.{List, [], ◌∷◌, ◌++◌, append_assoc, append-nil}
use borrow.Author.Tests.{ltb-true, leb-true, leb-false, lt-leb, ne_eqb}
use lib.Dec.{leb, ltb}
use lib.ListN.{length, length-append}
use Rattle.script.specs.Lists.{Every}
use Rattle.script.specs.Questions.{all_of}
use Rattle.script.proofs.Lists.{every_map}
use Rattle.script.proofs.Tests.{true_false}
use Rattle.grammar.specs.Tokens.{Spelling, Lexeme, fixed, name_token, digits_token, TEXT_END, STRAY, Fixed, fixed_words, fixed_signs, fixed_or, blank_test, digit_test, letter_test, word_byte_test, run_test, All, all_none, all_more, Spells, spells_word, spells_digits, spells_sign, Longest, Token, token_at, Splits, splits_end, splits_blank, splits_token, Begun, b_nothing, b_word, b_digits, begun_by, sign_by, tokens_from}
use Rattle.grammar.proofs.Fixed.{every_true, fixed_or_lem}

-- Where the bytes of each sort lie: a test that fails beyond a bound passes only within it.
pub within : (a b : ℕ) {t : Bool} → t ≡ true → (a < b → t ≡ false) → b ≤ a
within a b e f = go (leb b a) refl
  where
    go : (u : Bool) → leb b a ≡ u → b ≤ a
    go true h = leb-true b a h
    go false h = absurd (true_false (sym e ∙ f (leb-false b a h)))

no_digit : (b : ℕ) → 57 < b → digit_test b ≡ false
no_digit b h = rw (lt-leb b 57 h) (and-false (leb 48 b))

no_letter : (b : ℕ) → b < 65 → letter_test b ≡ false
no_letter b h = rw (lt-leb 65 b h, lt-leb 97 b (omega arith), ne_eqb b 95 (omega arith)) refl

pub no_blank : (b : ℕ) → 32 < b → blank_test b ≡ false
no_blank b h = rw (ne_eqb b 9 (omega arith), ne_eqb b 10 (omega arith), ne_eqb b 13 (omega arith), ne_eqb b 32 (omega arith)) refl

pub letter_from : (b : ℕ) → letter_test b ≡ true → 65 ≤ b
letter_from b e = within b 65 e (no_letter b)

pub digit_to : (b : ℕ) → digit_test b ≡ true → b ≤ 57
digit_to b e = within 57 b e (no_digit b)

blank_to : (b : ℕ) → blank_test b ≡ true → b ≤ 32
blank_to b e = within 32 b e (no_blank b)

-- A word or digits: what may begin one, what it is, and what has been read of it.
abbrev pub first_test : Bool → ℕ → Bool
first_test true b = digit_test b
first_test false b = letter_test b

abbrev pub run_lexeme : Bool → Spelling → Lexeme
run_lexeme true w = digits_token w
run_lexeme false w = fixed_or (name_token w) fixed_words w

abbrev begun : Bool → ℕ → Spelling → Begun
begun true at w = b_digits at w
begun false at w = b_word at w

-- Does a text begin with such a byte?
abbrev pub head_test : (ℕ → Bool) → List ℕ → Bool
head_test test [] = false
head_test test (b ∷ s) = test b

-- One byte of the text.
pub blank_skipped : (b n : ℕ) (s : List ℕ) → blank_test b ≡ true → tokens_from b_nothing n (b ∷ s) ≡ tokens_from b_nothing (n + 1) s
unfolding tokens_from
blank_skipped b n s e =
    rw (e, no_letter b (omega (arith, blank_to b e)), lt-leb 48 b (omega (arith, blank_to b e))) refl

expression_ways : (d : Bool) (b n : ℕ) (s : List ℕ) → first_test d b ≡ true → tokens_from b_nothing n (b ∷ s) ≡ tokens_from (begun d n (b ∷ [])) (n + 1) s
unfolding tokens_from
expression_ways true b n s e = rw (no_letter b (omega (arith, digit_to b e)), e) refl
expression_ways false b n s e = rw e refl

pub sign_taken : (b n : ℕ) (s : List ℕ) → not (word_byte_test b || blank_test b) ≡ true → tokens_from b_nothing n (b ∷ s) ≡ token_at n (fixed_or (fixed STRAY) fixed_signs (b ∷ [])) ∷ tokens_from b_nothing (n + 1) s
unfolding tokens_from
sign_taken b n s e = go (letter_test b) (digit_test b) (blank_test b) e
  where
    go : (l d k : Bool) → not ((l || d) || k) ≡ true → sign_by ((l || d) || k) b n ++ tokens_from (begun_by l d b n) (n + 1) s ≡ token_at n (fixed_or (fixed STRAY) fixed_signs (b ∷ [])) ∷ tokens_from b_nothing (n + 1) s
    go true d k h = absurd (true_false (sym h))
    go false true k h = absurd (true_false (sym h))
    go false false true h = absurd (true_false (sym h))
    go false false false h = refl

more : (d : Bool) (b at n : ℕ) (w : Spelling) (s : List ℕ) → run_test d b ≡ true → tokens_from (begun d at w) n (b ∷ s) ≡ tokens_from (begun d at (w ++ (b ∷ []))) (n + 1) s
unfolding tokens_from
more true b at n w s e = rw e refl
more false b at n w s e = rw e refl

stops : (d : Bool) (at n : ℕ) (w : Spelling) (s : List ℕ) → head_test (run_test d) s ≡ false → tokens_from (begun d at w) n s ≡ token_at at (run_lexeme d w) ∷ tokens_from b_nothing n s
unfolding tokens_from
stops true at n w [] e = refl
stops true at n w (b ∷ s) e = rw e refl
stops false at n w [] e = refl
stops false at n w (b ∷ s) e = rw e refl

-- A word or digits are taken whole.
goes : (d : Bool) (at n : ℕ) (v w : Spelling) (s : List ℕ) → All (run_test d) w → tokens_from (begun d at v) n (w ++ s) ≡ tokens_from (begun d at (v ++ w)) (n + length w) s
goes d at n v [] s a = rw (add-zero, append-nil) refl
goes d at n v (b ∷ w) s (all_more e a) =
    more d b at n v (w ++ s) e
    ∙ goes d at (n + 1) (v ++ (b ∷ [])) w s a
    ∙ rw append_assoc (ap (λ (m : ℕ). tokens_from (begun d at (v ++ (b ∷ w))) m s) (omega arith))

pub run_taken :
    (d : Bool) (b n : ℕ) (w : Spelling) (s : List ℕ)
    → first_test d b ≡ true
    → All (run_test d) w
    → head_test (run_test d) s ≡ false
    → tokens_from b_nothing n (b ∷ (w ++ s)) ≡ token_at n (run_lexeme d (b ∷ w)) ∷ tokens_from b_nothing (n + length (b ∷ w)) s
run_taken d b n w s e a h =
    expression_ways d b n (w ++ s) e
    ∙ goes d n (n + 1) (b ∷ []) w s a
    ∙ rw (stops d n (n + 1 + length w) (b ∷ w) s h) (ap (λ (m : ℕ). token_at n (run_lexeme d (b ∷ w)) ∷ tokens_from b_nothing m s) (omega arith))

-- What a token's first byte says of the rest of it.
spells_run : (d : Bool) {b : ℕ} {w : Spelling} → first_test d b ≡ true → All (run_test d) w → Spells (run_lexeme d (b ∷ w)) (b ∷ w)
spells_run true e a = spells_digits e a
spells_run false e a = spells_word e a

spelled_run : (d : Bool) {l : Lexeme} {b : ℕ} {w : Spelling} → first_test d b ≡ true → Spells l (b ∷ w) → All (run_test d) w
spelled_run true {b = b} e (spells_word f a) = absurd (omega (arith, letter_from b f, digit_to b e))
spelled_run true e (spells_digits f a) = a
spelled_run true {b = b} e (spells_sign f) = all_none
spelled_run false e (spells_word f a) = a
spelled_run false {b = b} e (spells_digits f a) = absurd (omega (arith, letter_from b e, digit_to b f))
spelled_run false e (spells_sign f) = all_none

spelled_sign : {l : Lexeme} {b : ℕ} {w : Spelling} → not (word_byte_test b || blank_test b) ≡ true → Spells l (b ∷ w) → w ≡ []
spelled_sign {b = b} e (spells_word f a) = absurd (true_false (sym (rw f at e)))
spelled_sign {b = b} e (spells_digits f a) = absurd (true_false (sym (rw (no_letter b (omega (arith, digit_to b f)), f) at e)))
spelled_sign e (spells_sign f) = refl

-- A token is the longest where the next byte does not go on with it, and only there.
all_there : {test : ℕ → Bool} (w : Spelling) (c : ℕ) (v : Spelling) → All test (w ++ (c ∷ v)) → test c ≡ true
all_there [] c v (all_more e a) = e
all_there (b ∷ w) c v (all_more e a) = all_there w c v a

all_longer : {test : ℕ → Bool} {w : Spelling} {c : ℕ} → All test w → test c ≡ true → All test (w ++ (c ∷ []))
all_longer all_none h = all_more h all_none
all_longer (all_more e a) h = all_more e (all_longer a h)

longest : (d : Bool) (b : ℕ) (w : Spelling) {s : List ℕ} → first_test d b ≡ true → head_test (run_test d) s ≡ false → Longest (b ∷ w) s
longest d b w e h l [] u p q = refl
longest d b w e h l (c ∷ v) u p q =
    absurd (true_false (sym (all_there w c v (spelled_run d e q)) ∙ ap (head_test (run_test d)) (sym p) ∙ h))

pub ended : (d : Bool) {b : ℕ} {w : Spelling} (s : List ℕ) → first_test d b ≡ true → All (run_test d) w → Longest (b ∷ w) s → head_test (run_test d) s ≡ false
ended d [] e a m = refl
ended d {b} {w} (c ∷ s) e a m = go (run_test d c) refl
  where
    go : (t : Bool) → run_test d c ≡ t → run_test d c ≡ false
    go true h =
        let z : c ∷ [] ≡ [] = m (run_lexeme d (b ∷ (w ++ (c ∷ [])))) (c ∷ []) s refl (spells_run d e (all_longer a h)) in
        let y : ◌≡◌ {A = ℕ} 0 1 = cc in
        absurd (omega arith)
    go false h = h

-- What has been read of a text is split, with the rest: at the start of a token, and within one.
record Split (s : List ℕ) : Type 0 where
  fresh : (n : ℕ) → Splits n s (tokens_from b_nothing n s)
  within_run :
      (d : Bool) (at n b : ℕ) (w : Spelling)
      → first_test d b ≡ true
      → All (run_test d) w
      → at + length (b ∷ w) ≡ n
      → Splits at (b ∷ (w ++ s)) (tokens_from (begun d at (b ∷ w)) n s)

-- A token that stops here, and the rest.
stopped :
    (d : Bool) {at n b : ℕ} {w : Spelling} {s : List ℕ}
    → first_test d b ≡ true
    → All (run_test d) w
    → at + length (b ∷ w) ≡ n
    → head_test (run_test d) s ≡ false
    → ((m : ℕ) → Splits m s (tokens_from b_nothing m s))
    → Splits at (b ∷ (w ++ s)) (tokens_from (begun d at (b ∷ w)) n s)
stopped d {at} {n} {b} {w} {s} e a m h f =
    rw (stops d at n (b ∷ w) s h, ← m) (splits_token (b ∷ w) refl (spells_run d e a) (longest d b w e h) (f (at + length (b ∷ w))))

split_none : Split []
unfolding tokens_from
split_none = record { fresh = λ n. splits_end; within_run = λ d at n b w e a m. stopped d e a m refl (λ k. splits_end) }

split_fresh : (c : ℕ) {s : List ℕ} → Split s → (n : ℕ) → Splits n (c ∷ s) (tokens_from b_nothing n (c ∷ s))
split_fresh c {s} r n = go (letter_test c) (digit_test c) (blank_test c) refl refl refl
  where
    go : (l d k : Bool) → letter_test c ≡ l → digit_test c ≡ d → blank_test c ≡ k → Splits n (c ∷ s) (tokens_from b_nothing n (c ∷ s))
    go true d k e f g = rw (expression_ways false c n s e) (r.within_run false n (n + 1) c [] e all_none refl)
    go false true k e f g = rw (expression_ways true c n s f) (r.within_run true n (n + 1) c [] f all_none refl)
    go false false true e f g = rw (blank_skipped c n s g) (splits_blank g (r.fresh (n + 1)))
    go false false false e f g =
        let no : not (word_byte_test c || blank_test c) ≡ true = rw (e, f, g) refl in
        rw (sign_taken c n s no) (splits_token (c ∷ []) refl (spells_sign no) (λ l v u p q. spelled_sign no q) (r.fresh (n + 1)))

split_cons : (c : ℕ) {s : List ℕ} → Split s → Split (c ∷ s)
split_cons c {s} r = record { fresh = split_fresh c r; within_run = λ d at n b w e a m. go d at n b w e a m (run_test d c) refl }
  where
    go :
        (d : Bool) (at n b : ℕ) (w : Spelling)
        → first_test d b ≡ true
        → All (run_test d) w
        → at + length (b ∷ w) ≡ n
        → (t : Bool)
        → run_test d c ≡ t
        → Splits at (b ∷ (w ++ (c ∷ s))) (tokens_from (begun d at (b ∷ w)) n (c ∷ s))
    go d at n b w e a m true h =
        rw (more d c at n (b ∷ w) s h)
        (rw append_assoc at (r.within_run d at (n + 1) b (w ++ (c ∷ [])) e (all_longer a h) (rw length-append (omega arith))))
    go d at n b w e a m false h = stopped d e a m h (split_fresh c r)

split : (s : List ℕ) → Split s
split [] = split_none
split (c ∷ s) = split_cons c (split s)

-- The tokens of a text exist,
pub splits : (n : ℕ) (s : List ℕ) → Splits n s (tokens_from b_nothing n s)
splits n s = (split s).fresh n

-- and are unique.
token_taken : (n : ℕ) {l : Lexeme} {w : Spelling} (s : List ℕ) → Spells l w → Longest w s → tokens_from b_nothing n (w ++ s) ≡ token_at n l ∷ tokens_from b_nothing (n + length w) s
token_taken n s (spells_word {b = b} {w = w} e a) m = run_taken false b n w s e a (ended false s e a m)
token_taken n s (spells_digits {b = b} {w = w} e a) m = run_taken true b n w s e a (ended true s e a m)
token_taken n s (spells_sign {b = b} e) m = sign_taken b n s e

pub splits_once : {n : ℕ} {s : List ℕ} {ts : List Token} → Splits n s ts → ts ≡ tokens_from b_nothing n s
unfolding tokens_from
splits_once splits_end = refl
splits_once (splits_blank {n = n} {b = b} {s = s} e r) = splits_once r ∙ sym (blank_skipped b n s e)
splits_once (splits_token {n = n} {s = s} {l = l} w e f m r) =
    ap (λ (ts : List Token). token_at n l ∷ ts) (splits_once r) ∙ sym (ap (tokens_from b_nothing n) e ∙ token_taken n s f m)

-- No token of a text is the text's end.
numbered : (ks : List Fixed) → all_of (λ k. ltb 0 k.token) ks ≡ true → Every (λ k. fixed k.token ≡ fixed TEXT_END → ⊥) ks
numbered ks e =
    every_map (λ k. ltb 0 k.token ≡ true) (λ k. fixed k.token ≡ fixed TEXT_END → ⊥)
    (λ k h p. let z : k.token ≡ 0 = cc in omega (arith, ltb-true 0 k.token h))
    ks
    (every_true (λ k. ltb 0 k.token) ks e)

real : {l : Lexeme} {w : Spelling} → Spells l w → l ≡ fixed TEXT_END → ⊥
unfolding fixed_words fixed_signs all_of
real (spells_word {b = b} {w = w} e a) q =
    fixed_or_lem (λ l. l ≡ fixed TEXT_END → ⊥) (name_token (b ∷ w)) fixed_words (b ∷ w) (λ p. let z : ◌≡◌ {A = ℕ} 0 1 = cc in omega arith) (numbered fixed_words refl) q
real (spells_digits e a) q = let z : ◌≡◌ {A = ℕ} 0 1 = cc in omega arith
real (spells_sign {b = b} e) q =
    fixed_or_lem (λ l. l ≡ fixed TEXT_END → ⊥) (fixed STRAY) fixed_signs (b ∷ []) (λ p. let z : ◌≡◌ {A = ℕ} 1 0 = cc in omega arith) (numbered fixed_signs refl) q

pub never_end : {n : ℕ} {s : List ℕ} {ts : List Token} → Splits n s ts → Every (λ t. t.lexeme ≡ fixed TEXT_END → ⊥) ts
never_end splits_end = tt
never_end (splits_blank e r) = never_end r
never_end (splits_token w e f m r) = (real f, never_end r)
