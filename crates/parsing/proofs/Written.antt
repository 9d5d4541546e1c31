-- Tokens that bytes spell: exactly such lists are the tokens of a text, none of them is the end, and a name, digits and what is spelled out are such tokens.
use Prim.Native.Nat.{ℕ, ◌+◌}
use mathlib.Core.Path.{◌≡◌, refl, ap}
use mathlib.Core.Bool.{Bool, true, false, not, ◌||◌, false≢true}
use mathlib.Core.List.{List, [], ◌∷◌, ◌++◌, map}
use native.Mathlib.Omega.{arith}
use lib.Dec.{eqb}
use lib.ListN.{length, length-append}
use Rattle.script.specs.Lists.{Every}
use Rattle.script.specs.Questions.{all_of}
use Rattle.grammar.specs.Tokens.{digit_test, token_at, Longest, Spelling, Lexeme, fixed, name_token, digits_token, TEXT_END, STRAY, Fixed, fixed_words}
use Rattle.grammar.specs.Tokens.{fixed_signs, same_spelling, fixed_or, blank_test, letter_test, word_byte_test, All, all_none, all_more, Spells}
use Rattle.grammar.specs.Tokens.{spells_word, spells_digits, spells_sign, Token, Splits, splits_end, splits_blank, splits_token}
use Rattle.grammar.specs.Parse.{is_fixed}
use Rattle.grammar.proofs.Fixed.{every_true, all_true, fixed_or_lem}

abbrev pub Spellable : Lexeme → Type 0
Spellable l = (w : Spelling) × Spells l w

abbrev pub Written : List Lexeme → Type 0
Written ls = Every Spellable ls

-- None of them is the end.
abbrev NotEnd : Lexeme → Type 0
NotEnd l = is_fixed TEXT_END l ≡ false

pub not_end : {l : Lexeme} {w : Spelling} → Spells l w → is_fixed TEXT_END l ≡ false
unfolding fixed_words fixed_signs
not_end (spells_word {b} {w} f a) = fixed_or_lem NotEnd (name_token (b ∷ w)) fixed_words (b ∷ w) refl (search tt depth 20)
not_end (spells_digits f a) = refl
not_end (spells_sign {b} f) = fixed_or_lem NotEnd (fixed STRAY) fixed_signs (b ∷ []) refl (search tt depth 20)

-- The tokens of a text are written.
pub splits_written : {n : ℕ} {s : List ℕ} {ts : List Token} → Splits n s ts → Written (map (λ t. t.lexeme) ts)
splits_written splits_end = tt
splits_written (splits_blank b r) = splits_written r
splits_written (splits_token w e f l r) = ((w, f), splits_written r)

-- The other way round: written tokens with a blank behind each are a text. A longer token would have the blank in it.
blank_tested : (test : ℕ → Bool) (y w v : Spelling) → All test y → y ≡ w ++ (32 ∷ v) → test 32 ≡ true
blank_tested test [] w v all_none e = absurd (omega (arith, ap length e, length-append w (32 ∷ v)))
blank_tested test (b ∷ y) [] v (all_more h a) e = let q : b ≡ 32 = cc in rw q at h
blank_tested test (b ∷ y) (c ∷ w) v (all_more h a) e = blank_tested test y w v a (cc)

no_blank : {l : Lexeme} {x : Spelling} → Spells l x → (c : ℕ) (w v : Spelling) → x ≡ c ∷ (w ++ (32 ∷ v)) → ⊥
no_blank (spells_word {w = y} f a) c w v e = false≢true (blank_tested word_byte_test y w v a (cc))
no_blank (spells_digits {w = y} f a) c w v e = false≢true (blank_tested digit_test y w v a (cc))
no_blank (spells_sign f) c w v e = omega (arith, ap length e, length-append w (32 ∷ v))

longest : (c : ℕ) (w s : Spelling) → Longest (c ∷ w) (32 ∷ s)
longest c w s l [] u e f = refl
longest c w s l (b ∷ v) u e f = let q : b ≡ 32 = cc in absurd (no_blank f c w v (rw q))

spelled_longest : {l : Lexeme} {w : Spelling} → Spells l w → (s : Spelling) → Longest w (32 ∷ s)
spelled_longest (spells_word {b} {w} f a) s = longest b w s
spelled_longest (spells_digits {b} {w} f a) s = longest b w s
spelled_longest (spells_sign {b} f) s = longest b [] s

pub record TextOf (n : ℕ) (ls : List Lexeme) : Type 0 where
  pub text : List ℕ
  pub tokens : List Token
  pub splits : Splits n text tokens
  pub same : ls ≡ map (λ t. t.lexeme) tokens

pub text_of : (n : ℕ) (ls : List Lexeme) → Written ls → TextOf n ls
text_of n [] a = record { text = []; tokens = []; splits = splits_end; same = refl }
text_of n (l ∷ ls) a =
    let w = a.0.0 in
    let c = text_of (n + length w + 1) ls a.1 in
    record {
      text = w ++ (32 ∷ c.text);
      tokens = token_at n l ∷ c.tokens;
      splits = splits_token w refl a.0.1 (spelled_longest a.0.1 c.text) (splits_blank refl c.splits);
      same = ap (λ u. l ∷ u) c.same;
    }

pub every_append : {A : Type 0} (P : A → Type 0) (l m : List A) → Every P l → Every P m → Every P (l ++ m)
every_append P [] m f g = g
every_append P (a ∷ l) m f g = (f.0, every_append P l m f.1 g)

-- A word or sign is spellable if its letters, as the lists have them, are read as that.
abbrev chosen_spelling : Bool → Spelling → Spelling → Spelling
chosen_spelling true v w = v
chosen_spelling false v w = w

unfoldable pub letters_of : ℕ → List Fixed → Spelling
letters_of k [] = []
letters_of k (f ∷ fs) = chosen_spelling (eqb k f.token) f.letters (letters_of k fs)

abbrev IsWord : ℕ → Spelling → Type 0
IsWord k [] = ⊥
IsWord k (b ∷ w) = (letter_test b ≡ true) × (all_of word_byte_test w ≡ true) × (fixed_or (name_token (b ∷ w)) fixed_words (b ∷ w) ≡ fixed k)

abbrev IsSign : ℕ → Spelling → Type 0
IsSign k [] = ⊥
IsSign k (b ∷ w) = (not (word_byte_test b || blank_test b) ≡ true) × (fixed_or (fixed STRAY) fixed_signs (b ∷ []) ≡ fixed k)

word_spells : (k : ℕ) (w : Spelling) → IsWord k w → Spellable (fixed k)
word_spells k [] h = absurd h
word_spells k (b ∷ w) h = (b ∷ w, rw h.2 at (spells_word {b = b} h.0 (all_true word_byte_test w (every_true word_byte_test w h.1))))

sign_spells : (k : ℕ) (w : Spelling) → IsSign k w → Spellable (fixed k)
sign_spells k [] h = absurd h
sign_spells k (b ∷ w) h = (b ∷ [], rw h.1 at (spells_sign {b = b} h.0))

pub word : (k : ℕ) → IsWord k (letters_of k fixed_words) → Spellable (fixed k)
word k h = word_spells k (letters_of k fixed_words) h

pub sign : (k : ℕ) → IsSign k (letters_of k fixed_signs) → Spellable (fixed k)
sign k h = sign_spells k (letters_of k fixed_signs) h

-- A name and digits.
abbrev pub some_name : Spelling
some_name = 120 ∷ []

abbrev pub some_digits : Spelling
some_digits = 48 ∷ []

pub some_name_lem : Spellable (name_token some_name)
unfolding fixed_or fixed_words same_spelling
some_name_lem = (some_name, spells_word refl all_none)

pub some_digits_lem : Spellable (digits_token some_digits)
some_digits_lem = (some_digits, spells_digits refl all_none)

pub ruleset spellable = (word, sign, some_name_lem, some_digits_lem, tt)
