-- Every token of a text stands at its offset.
use Prim.Native.Nat.{ℕ, ◌+◌}
use mathlib.Core.Path.{◌≡◌, refl, sym, ap, ◌∙◌}
use mathlib.Core.Bool.{Bool, true, false, not, ◌||◌}
use mathlib.Core.List.{List, [], ◌∷◌, ◌++◌}
use native.Mathlib.Omega.{arith}
use lib.ListN.{length, drop}
use lib.Seq.{drop-append_seam, drop-drop}
use Rattle.script.specs.Lists.{Every}
use Rattle.script.proofs.Tests.{true_false}
use Rattle.grammar.specs.Tokens.{Spelling, Lexeme, fixed, name_token, STRAY, Fixed, fixed_words, fixed_signs, fixed_or, chosen_lexeme, same_spelling, blank_test, digit_test, letter_test, word_byte_test, All, all_more, Spells, spells_word, spells_digits, spells_sign, Longest, Token, Splits, splits_end, splits_blank, splits_token, tokens_of}
use Rattle.grammar.proofs.Splitting.{splits, ended, head_test, letter_from, digit_to}
use Rattle.tokens.specs.Runs.{byte_run, word_from, digits_from}
use Rattle.spelt.specs.Spelt.{Spelt, digits_in}

-- A run that is ended is the whole run.
run_whole : (test : ℕ → Bool) (w : Spelling) (s : List ℕ) → All test w → head_test test s ≡ false → byte_run test (w ++ s) ≡ w
unfolding byte_run
run_whole test [] [] a h = refl
run_whole test [] (b ∷ s) a h = rw h refl
run_whole test (b ∷ w) s (all_more e a) h = rw e (ap (λ v. b ∷ v) (run_whole test w s a h))

no_run : (test : ℕ → Bool) (b : ℕ) (s : List ℕ) → test b ≡ false → byte_run test (b ∷ s) ≡ []
unfolding byte_run
no_run test b s h = rw h refl

-- What a word or sign can be.
word_name : (v : Spelling) (ks : List Fixed) (w y : Spelling) → fixed_or (name_token v) ks w ≡ name_token y → v ≡ y
unfolding fixed_or
word_name v [] w y h = cc
word_name v (k ∷ ks) w y h = go (same_spelling k.letters w) h (word_name v ks w y)
  where
    go : (t : Bool) → chosen_lexeme t (fixed k.token) (fixed_or (name_token v) ks w) ≡ name_token y → (fixed_or (name_token v) ks w ≡ name_token y → v ≡ y) → v ≡ y
    go true e f = absurd (let z : ◌≡◌ {A = ℕ} 0 1 = cc in omega arith)
    go false e f = f e

no_digits_in : (l : Lexeme) (ks : List Fixed) (w : Spelling) → digits_in l ≡ [] → digits_in (fixed_or l ks w) ≡ []
unfolding fixed_or
no_digits_in l [] w h = h
no_digits_in l (k ∷ ks) w h = go (same_spelling k.letters w) (no_digits_in l ks w h)
  where
    go : (t : Bool) → digits_in (fixed_or l ks w) ≡ [] → digits_in (chosen_lexeme t (fixed k.token) (fixed_or l ks w)) ≡ []
    go true e = refl
    go false e = e

sign_no_name : (n : ℕ) (ks : List Fixed) (w y : Spelling) → fixed_or (fixed n) ks w ≡ name_token y → ⊥
unfolding fixed_or
sign_no_name n [] w y h = let z : ◌≡◌ {A = ℕ} 0 1 = cc in omega arith
sign_no_name n (k ∷ ks) w y h = go (same_spelling k.letters w) h (sign_no_name n ks w y)
  where
    go : (t : Bool) → chosen_lexeme t (fixed k.token) (fixed_or (fixed n) ks w) ≡ name_token y → (fixed_or (fixed n) ks w ≡ name_token y → ⊥) → ⊥
    go true e f = let z : ◌≡◌ {A = ℕ} 0 1 = cc in omega arith
    go false e f = f e

-- A letter is no digit.
letter_digit : (b : ℕ) → letter_test b ≡ true → digit_test b ≡ false
letter_digit b h = go (digit_test b) refl
  where
    go : (t : Bool) → digit_test b ≡ t → digit_test b ≡ false
    go true e = absurd (omega (arith, letter_from b h, digit_to b e))
    go false e = e

no_word_no_digit : (b : ℕ) → not (word_byte_test b || blank_test b) ≡ true → digit_test b ≡ false
no_word_no_digit b h = go (letter_test b) (digit_test b) (blank_test b) h
  where
    go : (l d k : Bool) → not ((l || d) || k) ≡ true → d ≡ false
    go true d k e = absurd (true_false (sym e))
    go false true k e = absurd (true_false (sym e))
    go false false k e = refl

record Here (s : List ℕ) (l : Lexeme) : Type 0 where
  names : (y : Spelling) → l ≡ name_token y → word_from s ≡ y
  digits : digits_from s ≡ digits_in l

here : {l : Lexeme} {w : Spelling} (s : List ℕ) → Spells l w → Longest w s → Here (w ++ s) l
here s (spells_word {b = b} {w = w} e a) m =
    record {
      names = λ y h. run_whole word_byte_test (b ∷ w) s (all_more (rw e refl) a) (ended false s e a m) ∙ word_name (b ∷ w) fixed_words (b ∷ w) y h;
      digits = no_run digit_test b (w ++ s) (letter_digit b e) ∙ sym (no_digits_in (name_token (b ∷ w)) fixed_words (b ∷ w) refl);
    }
here s (spells_digits {b = b} {w = w} e a) m =
    record {
      names = λ y h. absurd (let z : ◌≡◌ {A = ℕ} 0 1 = cc in omega arith);
      digits = run_whole digit_test (b ∷ w) s (all_more e a) (ended true s e a m);
    }
here s (spells_sign {b = b} e) m =
    record {
      names = λ y h. absurd (sign_no_name STRAY fixed_signs (b ∷ []) y h);
      digits = no_run digit_test b s (no_word_no_digit b e) ∙ sym (no_digits_in (fixed STRAY) fixed_signs (b ∷ []) refl);
    }

spelt_from : (text : List ℕ) {n : ℕ} {s : List ℕ} {ts : List Token} → drop n text ≡ s → Splits n s ts → Every (Spelt text) ts
spelt_from text h splits_end = tt
spelt_from text {n} h (splits_blank {b = b} {s = s} e r) = spelt_from text (sym (drop-drop 1 n text) ∙ ap (drop 1) h) r
spelt_from text {n} h (splits_token {r = r} {s = s} {l = l} w e f m q) =
    let p = here s f m in
    let at : drop n text ≡ w ++ s = h ∙ e in (
      record { name_there = λ y g. ap word_from at ∙ p.names y g; digits_there = ap digits_from at ∙ p.digits },
      spelt_from text (sym (drop-drop (length w) n text) ∙ ap (drop (length w)) at ∙ drop-append_seam w s) q,
    )

pub spelt : (text : List ℕ) → Every (Spelt text) (tokens_of text)
spelt text = spelt_from text refl (splits 0 text)
