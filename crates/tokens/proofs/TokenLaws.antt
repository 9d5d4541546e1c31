-- Tokens at the places of a text.
use Prim.Native.Nat.{ℕ, suc, ◌+◌, ◌≤◌, ◌<◌}
use native.Mathlib.Numerals.{add-one}
use native.Mathlib.Omega.{arith}
use mathlib.Core.Path.{◌≡◌, refl, sym, ◌∙◌, ap}
use mathlib.Core.Bool.{Bool, true, false, ◌&&◌}
use mathlib.Core.List.{List, [], ◌∷◌, ◌++◌}
use lib.Dec.{ltb}
use borrow.Author.Tests.{ltb-true, ne_eqb}
use lib.ListN.{length, get_or, drop, drop_of_length-le}
use lib.Seq.{drop-cons, drop-drop}
use Rattle.script.specs.Lists.{Every}
use Rattle.script.specs.Questions.{all_of}
use Rattle.script.proofs.Lists.{every_map}
use Rattle.script.proofs.Tests.{true_false}
use Rattle.grammar.specs.Tokens.{Lexeme, fixed, name_token, digits_token, TEXT_END, STRAY, Fixed, fixed_words, fixed_signs, blank_test, digit_test, letter_test, word_byte_test, run_test, token_at, tokens_from, b_nothing}
use Rattle.grammar.proofs.Splitting.{first_test, run_lexeme, blank_skipped, sign_taken, run_taken}
use Rattle.grammar.proofs.Fixed.{every_true, fixed_or_lem}
use Rattle.tokens.specs.Runs.{byte_run, word_from, digits_from}
use Rattle.tokens.specs.Next.{K_NAME, K_DIGITS, KINDS, token_kind, lexeme_of, tokens_at, Skipped, TokenIs}
use Rattle.word_kinds.specs.Words.{word_lexeme, sign_lexeme}
use Rattle.word_kinds.proofs.RunLaws.{run_on, run_is, run_length}

-- Blanks are skipped.
pub skip_on : (text : List ℕ) (i : ℕ) → i < length text → blank_test (get_or text i 0) ≡ true → tokens_at text i ≡ tokens_at text (i + 1)
skip_on text i h e =
    ap (tokens_from b_nothing i) (drop-cons text i 0 h)
    ∙ blank_skipped (get_or text i 0) i (drop (suc i) text) e
    ∙ rw add-one refl

-- Blanks up to byte i, one byte after another.
abbrev pub Skips : List ℕ → ℕ → ℕ → Type 0
Skips text at i = (at ≤ i) × (i ≤ length text) × (tokens_at text at ≡ tokens_at text i)

pub skips_on : (text : List ℕ) (at i j : ℕ) → Skips text at i → i < length text → blank_test (get_or text i 0) ≡ true → j ≡ i + 1 → Skips text at j
skips_on text at i j s h e q = (omega (arith, s.0), omega arith, s.2 ∙ skip_on text i h e ∙ ap (tokens_at text) (sym q))

pub skips_done : (text : List ℕ) (at i : ℕ) → Skips text at i → (i < length text → blank_test (get_or text i 0) ≡ false) → Skipped text at i
skips_done text at i s n = record { same = s.2; from = s.0; within = s.1; blankless = n }

none_left : (text : List ℕ) (i : ℕ) → length text ≤ i → tokens_at text i ≡ []
unfolding tokens_from
none_left text i h = ap (tokens_from b_nothing i) (drop_of_length-le text h)

-- A token's kind is below a bound, is not the end's, and says what the token is.
record Told (s : List ℕ) (bound : ℕ) (l : Lexeme) : Type 0 where
  below : token_kind l < bound
  real : token_kind l ≡ TEXT_END → ⊥
  is : lexeme_of (token_kind l) s ≡ l

told_fixed : (s : List ℕ) (bound k : ℕ) → K_NAME ≤ bound → 0 < k → k < K_NAME → Told s bound (fixed k)
unfolding token_kind lexeme_of
told_fixed s bound k m h l =
    record { below = omega arith; real = λ e. omega arith; is = rw (ne_eqb k K_NAME (omega arith), ne_eqb k K_DIGITS (omega arith)) refl }

told_list : (s : List ℕ) (bound : ℕ) (ks : List Fixed) → K_NAME ≤ bound → all_of (λ k. ltb 0 k.token && ltb k.token K_NAME) ks ≡ true → Every (λ k. Told s bound (fixed k.token)) ks
told_list s bound ks m e =
    every_map (λ k. (ltb 0 k.token && ltb k.token K_NAME) ≡ true) (λ k. Told s bound (fixed k.token))
    (λ k h. go k.token (ltb 0 k.token) refl h)
    ks
    (every_true (λ k. ltb 0 k.token && ltb k.token K_NAME) ks e)
  where
    go : (k : ℕ) (t : Bool) → ltb 0 k ≡ t → (t && ltb k K_NAME) ≡ true → Told s bound (fixed k)
    go k true p q = told_fixed s bound k m (ltb-true 0 k p) (ltb-true k K_NAME q)
    go k false p q = absurd (true_false (sym q))

told_word : (s : List ℕ) → Told s K_DIGITS (word_lexeme (word_from s))
unfolding token_kind lexeme_of fixed_words all_of
told_word s =
    fixed_or_lem (Told s K_DIGITS) (name_token (word_from s)) fixed_words (word_from s)
    (record { below = omega arith; real = λ e. omega arith; is = refl })
    (told_list s K_DIGITS fixed_words (omega arith) refl)

told_digits : (s : List ℕ) → Told s KINDS (digits_token (digits_from s))
unfolding token_kind lexeme_of
told_digits s = record { below = omega arith; real = λ e. omega arith; is = refl }

told_sign : (s : List ℕ) (b : ℕ) → Told s K_NAME (sign_lexeme b)
unfolding fixed_signs all_of
told_sign s b =
    fixed_or_lem (Told s K_NAME) (fixed STRAY) fixed_signs (b ∷ []) (told_fixed s K_NAME STRAY (omega arith) (omega arith) (omega arith))
    (told_list s K_NAME fixed_signs (omega arith) refl)

pub sign_within : (b : ℕ) → (0 < token_kind (sign_lexeme b)) × (token_kind (sign_lexeme b) < K_NAME)
sign_within b = let t = told_sign [] b in (omega (arith, t.real), t.below)

-- What stands at a byte that is no blank: a word or digits, or a sign.
pub first_on : (d : Bool) (b : ℕ) → first_test d b ≡ true → run_test d b ≡ true
first_on true b e = e
first_on false b e = rw e refl

module _ (text : List ℕ) (start : ℕ) (inside : start < length text) where
  run_token :
      (d : Bool)
      → first_test d (get_or text start 0) ≡ true
      → tokens_at text start ≡
      token_at start (run_lexeme d (byte_run (run_test d) (drop start text))) ∷ tokens_at text (start + length (byte_run (run_test d) (drop start text)))
  run_token d e =
      let b = get_or text start 0 in
      let s = drop (start + 1) text in
      let w = byte_run (run_test d) s in
      let r = run_is (run_test d) s in
      let all : drop start text ≡ b ∷ (w ++ drop (length w) s) =
      drop-cons text start 0 inside ∙ ap (λ (n : ℕ). b ∷ drop n text) (sym (add-one start)) ∙ ap (λ (l : List ℕ). b ∷ l) r.expression_ways in
      let run : byte_run (run_test d) (drop start text) ≡ b ∷ w = run_on (run_test d) text start inside (first_on d b e) in
      let n : start + 1 + length w ≡ start + length (b ∷ w) = omega arith in
      rw run
      (ap (tokens_from b_nothing start) all
      ∙ run_taken d b start w (drop (length w) s) e r.passes r.stops
      ∙ ap (λ (l : List ℕ). token_at start (run_lexeme d (b ∷ w)) ∷ tokens_from b_nothing (start + length (b ∷ w)) l)
      (drop-drop (length w) (start + 1) text ∙ ap (λ (m : ℕ). drop m text) n))

  sign_token :
      letter_test (get_or text start 0) ≡ false
      → digit_test (get_or text start 0) ≡ false
      → blank_test (get_or text start 0) ≡ false
      → tokens_at text start ≡ token_at start (sign_lexeme (get_or text start 0)) ∷ tokens_at text (start + 1)
  sign_token e f g =
      let b = get_or text start 0 in
      ap (tokens_from b_nothing start) (drop-cons text start 0 inside)
      ∙ sign_taken b start (drop (suc start) text) (rw (e, f, g) refl)
      ∙ rw add-one refl

-- The answers of `next_token`.
module _ (text : List ℕ) (at start : ℕ) (skipped : Skipped text at start) where
  pub on_end : start ≡ length text → tokens_at text at ≡ []
  on_end e = skipped.same ∙ none_left text start (omega arith)

  answers :
      (kind end bound : ℕ) (l : Lexeme)
      → Told (drop start text) bound l
      → kind ≡ token_kind l
      → bound ≤ KINDS
      → start < end
      → end ≤ length text
      → tokens_at text start ≡ token_at start l ∷ tokens_at text end
      → (kind < bound → kind ≡ K_NAME → start + length (word_from (drop start text)) ≡ end)
      → (kind < bound → kind ≡ K_DIGITS → start + length (digits_from (drop start text)) ≡ end)
      → TokenIs text at (record { kind = kind; start = start; end = end })
  answers kind end bound l t k m i j f p q =
      let below : kind < bound = omega (arith, t.below) in
      let told : lexeme_of kind (drop start text) ≡ l = ap (λ (h : ℕ). lexeme_of h (drop start text)) k ∙ t.is in
      record {
        known = omega arith;
        real = λ e. t.real (sym k ∙ e);
        from = skipped.from;
        some = i;
        within = j;
        first = skipped.same ∙ f ∙ ap (λ (x : Lexeme). token_at start x ∷ tokens_at text end) (sym told);
        kind_is = ap token_kind told ∙ sym k;
        name_ends = p below;
        digits_end = q below;
      }

  module _ (inside : start < length text) where
    pub at_word :
        (kind end : ℕ)
        → letter_test (get_or text start 0) ≡ true
        → kind ≡ token_kind (word_lexeme (word_from (drop start text)))
        → end ≡ start + length (word_from (drop start text))
        → TokenIs text at (record { kind = kind; start = start; end = end })
    at_word kind end e k m =
        answers kind end K_DIGITS (word_lexeme (word_from (drop start text))) (told_word (drop start text)) k (omega arith)
        (omega (arith, ap length (run_on word_byte_test text start inside (first_on false (get_or text start 0) e))))
        (omega (arith, run_length word_byte_test text start skipped.within))
        (rw m (run_token text start inside false e))
        (λ _ _. sym m)
        (λ h n. absurd (omega arith))

    pub at_digits :
        (end : ℕ)
        → digit_test (get_or text start 0) ≡ true
        → end ≡ start + length (digits_from (drop start text))
        → TokenIs text at (record { kind = K_DIGITS; start = start; end = end })
    unfolding token_kind
    at_digits end e m =
        answers K_DIGITS end KINDS (digits_token (digits_from (drop start text))) (told_digits (drop start text)) refl (omega arith)
        (omega (arith, ap length (run_on digit_test text start inside e)))
        (omega (arith, run_length digit_test text start skipped.within))
        (rw m (run_token text start inside true e))
        (λ h n. absurd (omega arith))
        (λ _ _. sym m)

    pub at_sign :
        (kind : ℕ)
        → letter_test (get_or text start 0) ≡ false
        → digit_test (get_or text start 0) ≡ false
        → kind ≡ token_kind (sign_lexeme (get_or text start 0))
        → TokenIs text at (record { kind = kind; start = start; end = start + 1 })
    at_sign kind e f k =
        answers kind (start + 1) K_NAME (sign_lexeme (get_or text start 0)) (told_sign (drop start text) (get_or text start 0)) k (omega arith)
        (omega arith)
        (omega arith)
        (sign_token text start inside e f (skipped.blankless inside))
        (λ h n. absurd (omega arith))
        (λ h n. absurd (omega arith))
