-- Values: what the code of `values` answers of the words of one, and of the fields of an object.
use mathlib.Core.Path.{◌≡◌, refl, sym, ◌∙◌}
use mathlib.Core.Bool.{Bool, true, false, not, cond}
use Prim.Native.Nat.{ℕ, ◌+◌, ◌<◌, ◌≤◌}
use native.Mathlib.Omega.{arith}
use native.Mathlib.Decide.{dec_lt}
use lib.Dec.{eqb}
use borrow.Author.Tests.{ne_eqb}
use Rattle.words.specs.Word.{WORD}
use Rattle.script.specs.Asking.{Decides, holds, fails}
use Rattle.script.proofs.Tests.{decides_as, decides_eq}
use Rattle.machine.specs.declared.Value.TheVariants.{Null as nil, Ref as ref}
use Rattle.block.specs.Rows.{word_of}
use Rattle.block.specs.Layout.{VALUE, field_word}
use Rattle.block.specs.Values.{NULL, REF, INT, value_words, ValueOk}
use Rattle.block.proofs.Values.{three_ok, value_word, number_ok}
use Rattle.representation.specs.InOrder.{FieldsInOrder}
use Rattle.in_order.proofs.Answers.{after_yes, after_no}

-- the three words of a value, by its kind
module _ (w : ℕ → ℕ) (j kind low high : ℕ) (kind_is : kind ≡ w j)
    (low-is : (low ≡ w (j + 1)) × (low < WORD)) (high_is : (high ≡ w (j + 2)) × (high < WORD)) where
  pub number_words : kind ≡ INT → Decides (ValueOk w j) true
  number_words k = holds (number_ok w j (rw low-is.0 at low-is.1) (rw high_is.0 at high_is.1) (sym kind_is ∙ k))

  -- what no number is, is an object or null, with no high word
  its_word : (kind ≡ INT → ⊥) → ValueOk w j → (m : ℕ) → m < VALUE → w (j + m) ≡ word_of (value_words (cond (eqb kind REF) (ref (w (j + 1))) nil)) m
  its_word n ok m h = let v = value_word w j ok m h in rw (← kind_is, ne_eqb kind INT n) at v

  no_high : (b : Bool) (o : ℕ) → word_of (value_words (cond b (ref o) nil)) 2 ≡ 0
  no_high true o = refl
  no_high false o = refl

  -- an object, or a null, has no high word
  no_number : (kind ≡ INT → ⊥) → ValueOk w j → high ≡ 0
  no_number n ok = high_is.0 ∙ its_word n ok 2 (omega arith) ∙ no_high (eqb kind REF) (w (j + 1))

  pub an_object : kind ≡ REF → Decides (ValueOk w j) (eqb high 0)
  an_object k = decides_as (λ h. three_ok w j (ref low) low-is.1 (sym kind_is ∙ k) (sym low-is.0) (sym high_is.0 ∙ h)) (no_number (λ n. omega arith)) (decides_eq high 0)

  pub no_kind : (kind ≡ INT → ⊥) → (kind ≡ REF → ⊥) → (kind ≡ NULL → ⊥) → Decides (ValueOk w j) false
  no_kind n m h =
      let z : j + 0 ≡ j = omega arith in
      fails (λ ok. h (kind_is ∙ rw (z, ne_eqb kind REF m) at (its_word n ok 0 (omega arith))))

  module _ (k : kind ≡ NULL) where
    low_none : ValueOk w j → low ≡ 0
    low_none ok = low-is.0 ∙ rw k at (its_word (λ n. omega arith) ok 1 (omega arith))

    pub a_null : low ≡ 0 → Decides (ValueOk w j) (eqb high 0)
    a_null l =
        decides_as (λ h. three_ok w j nil _ (sym kind_is ∙ k) (sym low-is.0 ∙ l) (sym high_is.0 ∙ h)) (no_number (λ n. omega arith)) (decides_eq high 0)

    pub low_there : (low ≡ 0 → ⊥) → Decides (ValueOk w j) (eqb low 0)
    low_there n = rw (ne_eqb low 0 n) (fails (λ ok. n (low_none ok)))

-- the fields of an object
module _ {w : ℕ → ℕ} where
  pub no_field : FieldsInOrder w 0
  no_field = record { each = λ k h. absurd (omega arith) }

  pub field_more : {k : ℕ} {r : Bool} → FieldsInOrder w k → Decides (ValueOk w (field_word k)) r → not r ≡ false → FieldsInOrder w (k + 1)
  field_more {k} ok d e = record { each = λ m h. elim (dec_lt m k) [ yes y ↦ ok.each m y | no y ↦ let q : m ≡ k = omega arith in rw q (after_yes d e) ] }

  pub field_not : (k n : ℕ) {r : Bool} → k < n → Decides (ValueOk w (field_word k)) r → not r ≡ true → Decides (FieldsInOrder w n) false
  field_not k n h d e = fails (λ ok. after_no d e (ok.each k h))

  pub fields_asked : {k : ℕ} (n : ℕ) → FieldsInOrder w k → n ≤ k → Decides (FieldsInOrder w n) true
  fields_asked n ok h = holds (record { each = λ m l. ok.each m (omega arith) })
