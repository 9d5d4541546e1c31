-- What the code of the bindings answers, with the code's locals as variables.
use mathlib.Core.Path.{◌≡◌, refl, sym, ap, ◌∙◌}
use mathlib.Core.Bool.{Bool, true, false, not, ◌&&◌}
use mathlib.Core.List.{List}
use Prim.Native.Nat.{ℕ, suc, ◌+◌, ◌-◌, ◌<◌, ◌≤◌}
use native.Mathlib.Omega.{arith}
use borrow.Author.Tests.{lt-ltb, le-leb, lt-leb}
use lib.Dec.{leb}
use lib.ListN.{get_or}
use Rattle.words.specs.Word.{WORD, word_at}
use Rattle.script.specs.Syntax.{int_of}
use Rattle.script.specs.Reading.{program_of}
use Rattle.script.proofs.Tests.{and_no}
use Rattle.machine.specs.declared.Value.{Value}
use Rattle.machine.specs.declared.Want.TheVariants.{Upto as upto}
use Rattle.machine.specs.Config.{code_of}
use Rattle.machine.specs.Machine.{field_count}
use Rattle.machine.specs.Decide.{value_fits_test, binding_test, bindings_test}
use Rattle.block.specs.declared.Area.TheVariants.{Bindings}
use Rattle.block.specs.Layout.{counted, word_in, word_byte, NAME, TYPE, BOUND, LINK}
use Rattle.block.specs.Values.{value_in}
use Rattle.parts.specs.Parts.{config_read, objects_in}
use Rattle.environments.specs.Chains.{binding_at, newest, bindings_in}
use Rattle.environments.proofs.ChainLaws.{length_newest}
use Rattle.values.specs.Objects.{ObjectsInOrder}
use Rattle.values.proofs.ReadLaws.{bindings_read}
use Rattle.values.proofs.StoreLaws.{and_yes}

-- words of a block are words
word_small : (b : List ℕ) → ((i : ℕ) → get_or b i 0 < 256) → (at : ℕ) → word_at b at < WORD
unfolding word_at
word_small b small at = omega (arith, small at, small (at + 1))

-- one binding
module _ {s b : List ℕ} (a : ObjectsInOrder s b) (i t z : ℕ) (et : t ≡ word_in b Bindings i TYPE) (ez : z ≡ int_of (program_of s)) where
  abbrev type_fits : Bool
  type_fits = leb (word_in b Bindings i TYPE) (int_of (program_of s))

  abbrev rest : Bool
  rest = leb (word_in b Bindings i LINK) i && value_fits_test (code_of s) (objects_in s b) (value_in (word_in b Bindings i) BOUND) (upto (word_in b Bindings i TYPE))

  whole : binding_test (code_of s) (objects_in s b) i (binding_at b i) ≡ type_fits && rest
  whole = rw (lt-ltb (word_in b Bindings i NAME) 65536 (word_small b a.small (word_byte Bindings i NAME))) refl

  pub binding_no_type : z < t → false ≡ binding_test (code_of s) (objects_in s b) i (binding_at b i)
  binding_no_type h =
      let no : type_fits ≡ false = lt-leb (word_in b Bindings i TYPE) (int_of (program_of s)) (omega arith) in
      sym (whole ∙ rw no refl)

  module _ (link : ℕ) (el : link ≡ word_in b Bindings i LINK) (h : t ≤ z) where
    typed : binding_test (code_of s) (objects_in s b) i (binding_at b i) ≡ rest
    typed =
        let yes : type_fits ≡ true = le-leb (word_in b Bindings i TYPE) (int_of (program_of s)) (omega arith) in
        whole ∙ rw yes refl

    pub binding_no_link : i < link → false ≡ binding_test (code_of s) (objects_in s b) i (binding_at b i)
    binding_no_link l = let no : leb (word_in b Bindings i LINK) i ≡ false = lt-leb (word_in b Bindings i LINK) i (omega arith) in sym (typed ∙ rw no refl)

    pub binding_is :
        (v : Value) (r : Bool) → link ≤ i → v ≡ value_in (word_in b Bindings i) BOUND
        → r ≡ value_fits_test (code_of s) (objects_in s b) v (upto t)
        → r ≡ binding_test (code_of s) (objects_in s b) i (binding_at b i)
    binding_is v r l ev e =
        let yes : leb (word_in b Bindings i LINK) i ≡ true = le-leb (word_in b Bindings i LINK) i (omega arith) in
        e ∙ rw (et, ev) (sym (typed ∙ rw yes refl))

-- a walk over the bindings, newest first, that has those before number n left
abbrev pub BindingsLeft : List ℕ → List ℕ → ℕ → Type 0
BindingsLeft s b n =
    bindings_test (code_of s) (objects_in s b) (config_read s b).stores.bindings ≡ bindings_test (code_of s) (objects_in s b) (newest (binding_at b) n)

module _ (s b : List ℕ) where
  pub bindings_begun : (n : ℕ) → n ≡ counted b Bindings → BindingsLeft s b n
  unfolding bindings_in
  bindings_begun n e = rw e (ap (bindings_test (code_of s) (objects_in s b)) (bindings_read (field_count s) b))

  module _ (n : ℕ) (left : BindingsLeft s b n) where
    pub bindings_done : (0 < n → ⊥) → true ≡ bindings_test (code_of s) (objects_in s b) (config_read s b).stores.bindings
    bindings_done h = let z : n ≡ 0 = omega arith in sym (rw z at left)

    module _ (r : Bool) (h : 0 < n) (e : r ≡ binding_test (code_of s) (objects_in s b) (n - 1) (binding_at b (n - 1))) where
      next :
          bindings_test (code_of s) (objects_in s b) (config_read s b).stores.bindings
          ≡ binding_test (code_of s) (objects_in s b) (n - 1) (binding_at b (n - 1)) && bindings_test (code_of s) (objects_in s b) (newest (binding_at b) (n - 1))
      next =
          let z : n ≡ suc (n - 1) = omega arith in
          left
          ∙ ap (λ (m : ℕ). bindings_test (code_of s) (objects_in s b) (newest (binding_at b) m)) z
          ∙ ap (λ (m : ℕ). binding_test (code_of s) (objects_in s b) m (binding_at b (n - 1)) && bindings_test (code_of s) (objects_in s b) (newest (binding_at b) (n - 1))) (length_newest (binding_at b) (n - 1))

      pub bindings_no : not r ≡ true → false ≡ bindings_test (code_of s) (objects_in s b) (config_read s b).stores.bindings
      bindings_no q = and_no (binding_test (code_of s) (objects_in s b) (n - 1) (binding_at b (n - 1))) (bindings_test (code_of s) (objects_in s b) (newest (binding_at b) (n - 1))) r e q ∙ sym next

      pub bindings_more : not r ≡ false → BindingsLeft s b (n - 1)
      bindings_more q = next ∙ and_yes (binding_test (code_of s) (objects_in s b) (n - 1) (binding_at b (n - 1))) (bindings_test (code_of s) (objects_in s b) (newest (binding_at b) (n - 1))) r e q
