-- The words and signs that the grammar spells out.
use Prim.Native.Nat.{ℕ}
use mathlib.Core.Path.{◌≡◌, refl, sym}
use mathlib.Core.Bool.{Bool, true, false, ◌&&◌}
use mathlib.Core.List.{List, [], ◌∷◌}
use lib.Dec.{eqb}
use borrow.Author.Tests.{eqb-true}
use Rattle.script.specs.Lists.{Every}
use Rattle.script.specs.Questions.{all_of}
use Rattle.script.proofs.Tests.{true_false}
use Rattle.grammar.specs.Tokens.{Spelling, Lexeme, fixed, Fixed, same_spelling, chosen_lexeme, fixed_or, All, all_none, all_more}

-- Spellings that pass the test are the same.
pub same_is : (v w : Spelling) → same_spelling v w ≡ true → v ≡ w
unfolding same_spelling
same_is [] [] e = refl
same_is [] (c ∷ w) e = absurd (true_false (sym e))
same_is (b ∷ v) [] e = absurd (true_false (sym e))
same_is (b ∷ v) (c ∷ w) e = go (eqb b c) refl e (same_is v w)
  where
    go : (t : Bool) → eqb b c ≡ t → (t && same_spelling v w) ≡ true → (same_spelling v w ≡ true → v ≡ w) → b ∷ v ≡ c ∷ w
    go true h f r = let p = eqb-true b c h in let q = r f in cc
    go false h f r = absurd (true_false (sym f))

-- What a computed test says of each element of a list, and of each byte of a spelling.
pub every_true : {A : Type 0} (test : A → Bool) (l : List A) → all_of test l ≡ true → Every (λ a. test a ≡ true) l
unfolding all_of
every_true test [] e = tt
every_true test (a ∷ l) e = go (test a) refl e (every_true test l)
  where
    go : (t : Bool) → test a ≡ t → (t && all_of test l) ≡ true → (all_of test l ≡ true → Every (λ b. test b ≡ true) l) → (test a ≡ true) × Every (λ b. test b ≡ true) l
    go true h f r = (h, r f)
    go false h f r = absurd (true_false (sym f))

pub all_true : (test : ℕ → Bool) (w : Spelling) → Every (λ b. test b ≡ true) w → All test w
all_true test [] e = all_none
all_true test (b ∷ w) e = all_more e.0 (all_true test w e.1)

-- What holds of each word or sign of a list, and of what a spelling is if it is none of them, holds of what it is.
pub fixed_or_lem : (P : Lexeme → Type 0) (l : Lexeme) (ks : List Fixed) (w : Spelling) → P l → Every (λ k. P (fixed k.token)) ks → P (fixed_or l ks w)
unfolding fixed_or
fixed_or_lem P l [] w p e = p
fixed_or_lem P l (k ∷ ks) w p e = go (same_spelling k.letters w) (fixed_or_lem P l ks w p e.1)
  where
    go : (t : Bool) → P (fixed_or l ks w) → P (chosen_lexeme t (fixed k.token) (fixed_or l ks w))
    go true r = e.0
    go false r = r
