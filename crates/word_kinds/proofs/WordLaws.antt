-- A word is the one of the grammar that its slot leads to, or a name.
use Prim.Native.Nat.{ℕ, ◌+◌, ◌-◌, ◌*◌, ◌%◌, ◌≤◌}
use native.Mathlib.Omega.{arith}
use mathlib.Core.Path.{◌≡◌, refl, sym, ◌∙◌, ap}
use mathlib.Core.Bool.{Bool, true, false}
use mathlib.Core.List.{List, [], ◌∷◌}
use lib.Dec.{eqb}
use borrow.Author.Tests.{eqb-true}
use lib.ListN.{take, length, get_or, drop, get_or-append}
use lib.Pointwise.{pointwise}
use Rattle.std.proofs.lemmas.Slice.Eq.{bytes_eq-Decides}
use lib.Seq.{get_or-drop}
use Rattle.script.specs.Lists.{Every}
use Rattle.script.specs.Questions.{all_of}
use Rattle.script.proofs.Tests.{true_false}
use Rattle.grammar.specs.Tokens.{Spelling, name_token, fixed, Fixed, fixed_words, fixed_or, same_spelling, chosen_lexeme, word_byte_test}
use Rattle.grammar.proofs.Fixed.{same_is, every_true}
use Rattle.word_kinds.specs.declared.Spelled.{Spelled}
use Rattle.word_kinds.specs.Kind.{K_NAME, token_kind}
use Rattle.word_kinds.specs.Runs.{word_from}
use Rattle.word_kinds.specs.Words.{word_lexeme, WordAt, WORD_SLOTS, word_slot, chosen_fixed, fixed_at, SpelledIs}
use Rattle.word_kinds.proofs.RunLaws.{run_on, run_is, run_length, run_front}

-- What holds of each word of a list, and of no word, holds of the one that has a slot.
fixed_at_lem : (P : Fixed → Type 0) (ks : List Fixed) (slot : ℕ) → P (record { token = K_NAME; letters = [] }) → Every P ks → P (fixed_at ks slot)
unfolding fixed_at
fixed_at_lem P [] slot p e = p
fixed_at_lem P (k ∷ ks) slot p e = go (eqb slot (word_slot k.letters)) (fixed_at_lem P ks slot p e.1)
  where
    go : (t : Bool) → P (fixed_at ks slot) → P (chosen_fixed t k (fixed_at ks slot))
    go true r = e.0
    go false r = r

at_kind : (slot : ℕ) → eqb (token_kind (word_lexeme (fixed_at fixed_words slot).letters)) (fixed_at fixed_words slot).token ≡ true
unfolding fixed_words all_of token_kind fixed_or same_spelling
at_kind slot =
    fixed_at_lem (λ k. eqb (token_kind (word_lexeme k.letters)) k.token ≡ true) fixed_words slot refl
    (every_true (λ k. eqb (token_kind (word_lexeme k.letters)) k.token) fixed_words refl)

-- A word that fails a test which the grammar's words pass is a name.
not_among : (test : Spelling → Bool) (ks : List Fixed) (w : Spelling) → test w ≡ false → Every (λ k. test k.letters ≡ true) ks → fixed_or (name_token w) ks w ≡ name_token w
unfolding fixed_or
not_among test [] w h e = refl
not_among test (k ∷ ks) w h e = go (same_spelling k.letters w) refl (not_among test ks w h e.1)
  where
    go : (t : Bool) → same_spelling k.letters w ≡ t → fixed_or (name_token w) ks w ≡ name_token w → chosen_lexeme t (fixed k.token) (fixed_or (name_token w) ks w) ≡ name_token w
    go true p r = absurd (true_false (sym e.0 ∙ ap test (same_is k.letters w p) ∙ h))
    go false p r = r

unlike : (test : Spelling → Bool) (w : Spelling) → test w ≡ false → all_of (λ k. test k.letters) fixed_words ≡ true → K_NAME ≡ token_kind (word_lexeme w)
unfolding token_kind
unlike test w h e = sym (ap token_kind (not_among test fixed_words w h (every_true (λ k. test k.letters) fixed_words e)))

-- The answers of `word_kind`.
module _ (text : List ℕ) (start end : ℕ) (word : WordAt text start end) where
  goes : word_from (drop start text) ≡ get_or text start 0 ∷ word_from (drop (start + 1) text)
  goes = run_on word_byte_test text start word.inside (rw word.letter refl)

  pub word_there : take (end - start) (drop start text) ≡ word_from (drop start text)
  word_there =
      let n : end - start ≡ length (word_from (drop start text)) = omega (arith, word.ends) in
      rw n (run_front word_byte_test (drop start text))

  pub ends_within : (start + 1 ≤ end) × (end ≤ length text)
  ends_within =
      let l : start ≤ length text = omega (arith, word.inside) in
      omega (arith, word.ends, ap length goes, run_length word_byte_test text start l)

  last_there : get_or text (end - 1) 0 ≡ get_or (word_from (drop start text)) (length (word_from (drop start text)) - 1) 0
  last_there =
      let w = word_from (drop start text) in
      let m : end - 1 ≡ start + (length w - 1) = omega (arith, word.ends, ap length goes) in
      ap (λ (n : ℕ). get_or text n 0) m
      ∙ sym (get_or-drop start text (length w - 1) 0)
      ∙ ap (λ (l : List ℕ). get_or l (length w - 1) 0) (run_is word_byte_test (drop start text)).expression_ways
      ∙ get_or-append w (drop (length w) (drop start text)) 0 (length w - 1) (omega (arith, ap length goes))

  slot_there : (get_or text start 0 + 2 * get_or text (end - 1) 0) % WORD_SLOTS ≡ word_slot (word_from (drop start text))
  slot_there = rw last_there (ap (λ (v : Spelling). (get_or v 0 0 + 2 * get_or (word_from (drop start text)) (length (word_from (drop start text)) - 1) 0) % WORD_SLOTS) (sym goes))

  module _
      (slot : ℕ)
      (c : Spelled)
      (slot_is : slot ≡ (get_or text start 0 + 2 * get_or text (end - 1) 0) % WORD_SLOTS)
      (candidate : SpelledIs (fixed_at fixed_words slot) c)
    where
      by_slot : c.0.now ≡ (fixed_at fixed_words (word_slot (word_from (drop start text)))).letters
      by_slot = candidate.letters_are ∙ ap (λ (n : ℕ). (fixed_at fixed_words n).letters) (slot_is ∙ slot_there)

      pub other_word : false ≡ pointwise eqb (take (end - start) (drop start text)) c.0.now → K_NAME ≡ token_kind (word_lexeme (word_from (drop start text)))
      unfolding fixed_words all_of fixed_at
      other_word n =
          unlike (λ v. pointwise eqb v (fixed_at fixed_words (word_slot v)).letters) (word_from (drop start text)) (sym (rw (word_there, by_slot) at n)) refl

      pub same_word : true ≡ pointwise eqb (take (end - start) (drop start text)) c.0.now → c.1 ≡ token_kind (word_lexeme (word_from (drop start text)))
      same_word e =
          let k : Fixed = fixed_at fixed_words slot in
          let p : take (end - start) (drop start text) ≡ c.0.now = (bytes_eq-Decides _ _).0 (sym e) in
          let q : k.letters ≡ word_from (drop start text) = sym candidate.letters_are ∙ sym p ∙ word_there in
          candidate.kind_is
          ∙ sym (eqb-true (token_kind (word_lexeme k.letters)) k.token (at_kind slot))
          ∙ ap (λ (v : Spelling). token_kind (word_lexeme v)) q
