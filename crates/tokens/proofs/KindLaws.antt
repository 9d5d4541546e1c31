-- Tokens by the kinds of the bytes that begin them.
use Prim.Native.Nat.{ℕ, zero, suc, ◌+◌, ◌≤◌, ◌<◌}
use native.Mathlib.Omega.{arith}
use mathlib.Core.Path.{◌≡◌, refl, sym, ◌∙◌, ap}
use mathlib.Core.Bool.{Bool, true, false, ◌||◌}
use mathlib.Core.List.{List}
use lib.Dec.{leb}
use borrow.Author.Tests.{lt-leb, le-leb}
use lib.ListN.{length, get_or, drop}
use Rattle.script.proofs.Tests.{true_false}
use Rattle.grammar.specs.Tokens.{blank_test, digit_test, letter_test, word_byte_test, run_test}
use Rattle.grammar.proofs.Splitting.{no_blank, letter_from, digit_to, first_test}
use Rattle.tokens.specs.Runs.{byte_run}
use Rattle.tokens.specs.Next.{K_NAME, K_DIGITS, token_kind, Skipped, TokenIs}
use Rattle.word_kinds.specs.Words.{sign_lexeme, WordAt}
use Rattle.tokens.specs.Kinds.{BLANK, kind_by, byte_kind, kinds_from, byte_kinds, kind_test}
use Rattle.word_kinds.proofs.RunLaws.{run_on}
use Rattle.tokens.proofs.NameLaws.{digit_from}
use Rattle.tokens.proofs.TokenLaws.{sign_within, first_on, at_digits, at_sign}

-- The table has the kind of each byte.
kind_in : (n b j : ℕ) → j < n → get_or (kinds_from n b) j 0 ≡ byte_kind (b + j)
unfolding kinds_from
kind_in zero b j h = absurd (omega arith)
kind_in (suc n) b zero h = let e : b + 0 ≡ b = omega arith in rw e
kind_in (suc n) b (suc j) h = let e : b + suc j ≡ b + 1 + j = omega arith in rw e (kind_in n (b + 1) j (omega arith))

pub kind_there : (kinds : List ℕ) (b : ℕ) → kinds ≡ byte_kinds → b < 256 → get_or kinds b 0 ≡ byte_kind b
unfolding byte_kinds
kind_there kinds b t h = let e : 0 + b ≡ b = omega arith in rw (t, kind_in 256 0 b h, e)

-- Blanks are of their kind, and nothing else is.
pub blank_kind : (b : ℕ) → byte_kind b ≡ BLANK → blank_test b ≡ true
unfolding byte_kind
blank_kind b e = go (letter_test b) (digit_test b) (blank_test b) e
  where
    go : (l d k : Bool) → kind_by l d k b ≡ BLANK → k ≡ true
    go true d k h = absurd (omega arith)
    go false true k h = absurd (omega arith)
    go false false true h = refl
    go false false false h = absurd (omega (arith, (sign_within b).0))

pub other_kind : (b : ℕ) → (byte_kind b ≡ BLANK → ⊥) → blank_test b ≡ false
unfolding byte_kind
other_kind b n = go (letter_test b) (digit_test b) (blank_test b) refl refl refl n
  where
    go : (l d k : Bool) → letter_test b ≡ l → digit_test b ≡ d → blank_test b ≡ k → (kind_by l d k b ≡ BLANK → ⊥) → blank_test b ≡ false
    go true d k p q r m = no_blank b (omega (arith, letter_from b p))
    go false true k p q r m = no_blank b (omega (arith, digit_from b q))
    go false false true p q r m = absurd (m refl)
    go false false false p q r m = r

-- A word goes on with letters and digits, of a name's kind or a higher one, and digits go on with digits.
abbrev run_kind : Bool → ℕ
run_kind true = K_DIGITS
run_kind false = K_NAME

run_kind_lem : (d : Bool) (b : ℕ) → kind_test (run_kind d) b ≡ run_test d b
unfolding byte_kind
run_kind_lem true b = go (letter_test b) (digit_test b) (blank_test b) refl refl
  where
    go : (l d k : Bool) → letter_test b ≡ l → digit_test b ≡ d → leb K_DIGITS (kind_by l d k b) ≡ d
    go true true k p q = absurd (omega (arith, letter_from b p, digit_to b q))
    go true false k p q = refl
    go false true k p q = refl
    go false false true p q = refl
    go false false false p q = lt-leb K_DIGITS (token_kind (sign_lexeme b)) (omega (arith, (sign_within b).1))
run_kind_lem false b = go (letter_test b) (digit_test b) (blank_test b)
  where
    go : (l d k : Bool) → leb K_NAME (kind_by l d k b) ≡ (l || d)
    go true d k = refl
    go false true k = refl
    go false false true = refl
    go false false false = lt-leb K_NAME (token_kind (sign_lexeme b)) (sign_within b).1

-- Is a byte one of a word, by its kind?
pub word_in : (b k : ℕ) → k ≡ byte_kind b → K_NAME ≤ k → word_byte_test b ≡ true
word_in b k e h = sym (run_kind_lem false b) ∙ le-leb K_NAME (byte_kind b) (omega arith)

pub word_out : (b k : ℕ) → k ≡ byte_kind b → k < K_NAME → word_byte_test b ≡ false
word_out b k e h = sym (run_kind_lem false b) ∙ lt-leb K_NAME (byte_kind b) (omega arith)

-- A byte behind blanks, and its kind.
pub record KindAt (text : List ℕ) (at start kind : ℕ) : Type 0 where
  pub skipped : Skipped text at start
  pub inside : start < length text
  pub is : kind ≡ byte_kind (get_or text start 0)

pub kind_known :
    {text : List ℕ} {at start kind : ℕ}
    → Skipped text at start
    → (start ≡ length text → ⊥)
    → kind ≡ byte_kind (get_or text start 0)
    → KindAt text at start kind
kind_known s n k = record { skipped = s; inside = omega (arith, s.within); is = k }

-- The answers of `next_token` by that kind, and where a word ends.
module _ (text : List ℕ) (at start kind : ℕ) (known : KindAt text at start kind) where
  run_there :
      (d : Bool) (end : ℕ)
      → first_test d (get_or text start 0) ≡ true
      → kind ≡ run_kind d
      → end ≡ start + 1 + length (byte_run (kind_test kind) (drop (start + 1) text))
      → end ≡ start + length (byte_run (run_test d) (drop start text))
  run_there d end e k m =
      let t : kind_test kind ≡ run_test d = ap kind_test k ∙ (λ i b. run_kind_lem d b i) in
      omega (
        arith,
        m ∙ ap (λ (test : ℕ → Bool). start + 1 + length (byte_run test (drop (start + 1) text))) t,
        ap length (run_on (run_test d) text start known.inside (first_on d (get_or text start 0) e)),
      )

  pub of_sign : kind < K_NAME → TokenIs text at (record { kind = kind; start = start; end = start + 1 })
  unfolding byte_kind
  of_sign h = go (letter_test b) (digit_test b) (blank_test b) refl refl refl known.is
    where
      b : ℕ
      b = get_or text start 0

      go : (l d k : Bool) → letter_test b ≡ l → digit_test b ≡ d → blank_test b ≡ k → kind ≡ kind_by l d k b → TokenIs text at (record { kind = kind; start = start; end = start + 1 })
      go true d k p q r e = absurd (omega arith)
      go false true k p q r e = absurd (omega arith)
      go false false true p q r e = absurd (true_false (sym r ∙ known.skipped.blankless known.inside))
      go false false false p q r e = at_sign text at start known.skipped known.inside kind p q e

  module _ (end : ℕ) (ends : end ≡ start + 1 + length (byte_run (kind_test kind) (drop (start + 1) text))) where
    pub of_digits : kind ≡ K_DIGITS → TokenIs text at (record { kind = kind; start = start; end = end })
    of_digits k =
        let e : digit_test (get_or text start 0) ≡ true = sym (run_kind_lem true (get_or text start 0)) ∙ ap (leb K_DIGITS) (sym known.is ∙ k) in
        rw k (at_digits text at start known.skipped known.inside end e (run_there true end e k ends))

    pub word_there : K_NAME ≤ kind → (kind ≡ K_DIGITS → ⊥) → WordAt text start end
    unfolding byte_kind
    word_there h n = go (letter_test b) (digit_test b) (blank_test b) refl known.is
      where
        b : ℕ
        b = get_or text start 0

        go : (l d k : Bool) → letter_test b ≡ l → kind ≡ kind_by l d k b → WordAt text start end
        go true d k p e = record { inside = known.inside; letter = p; ends = run_there false end p e ends }
        go false true k p e = absurd (n e)
        go false false true p e = absurd (omega arith)
        go false false false p e = absurd (omega (arith, (sign_within b).1))
