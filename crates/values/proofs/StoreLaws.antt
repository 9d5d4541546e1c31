-- What the code of the stores answers, with the code's locals as variables.
use mathlib.Core.Path.{◌≡◌, refl, sym, ap, ◌∙◌}
use mathlib.Core.Bool.{Bool, true, false, not, ◌&&◌}
use mathlib.Core.List.{List, [], ◌∷◌}
use mathlib.Core.Option.{none, some}
use Prim.Native.Nat.{ℕ, suc, ◌+◌, ◌-◌, ◌<◌, ◌≤◌}
use native.Mathlib.Omega.{arith}
use borrow.Author.Tests.{not-false}
use lib.ListN.{length}
use lib.IntN.{ℤ}
use Rattle.words.specs.Integer.{InRange}
use Rattle.words.proofs.Integers.{range_exactly}
use Rattle.limits.specs.Limits.{CLASS_FIELDS}
use Rattle.script.specs.declared.Section.TheVariants.{Fields as fields}
use Rattle.script.specs.Lists.{run, sum_below}
use Rattle.script.specs.Section.{record_word}
use Rattle.script.specs.Syntax.{Class, a_class, int_of, declaration_at}
use Rattle.script.specs.Reading.{own_fields, field_at, class_at, program_of}
use Rattle.script.specs.Asking.{Decides}
use Rattle.script.specs.Questions.{all_of}
use Rattle.script.proofs.Lists.{length_run}
use Rattle.script.proofs.Tests.{yes_said, no_said, decides_and, decides_lt, decides_le, and_no}
use Rattle.script.proofs.Declarations.{a_class_at, length_interfaces, length_classes}
use Rattle.subtypes.specs.declared.Declared.{Declared}
use Rattle.subtypes.specs.declared.Declared.TheVariants.{Interface as is_interface, Class as is_class, Neither as is-neither}
use Rattle.subtypes.specs.Subtypes.{DeclaredAs}
use Rattle.subtypes.proofs.SubtypeLaws.{class_there, type_neither, type_interface, type_class}
use Rattle.machine.specs.declared.Value.{Value}
use Rattle.machine.specs.declared.Value.TheVariants.{Int as int}
use Rattle.machine.specs.declared.Want.{Want}
use Rattle.machine.specs.declared.Want.TheVariants.{Upto as upto}
use Rattle.machine.specs.Config.{Code, Object, code_of}
use Rattle.typing.specs.Members.{fields_of}
use Rattle.machine.specs.Machine.{field_count, object}
use Rattle.machine.specs.Decide.{meets_test, object_test, value_fits_test, is_class_test, fields_test}
use Rattle.block.specs.declared.Area.TheVariants.{Objects}
use Rattle.block.specs.Layout.{counted, word_in, CLASS}
use Rattle.representation.specs.InOrder.{InOrder}
use Rattle.parts.specs.Parts.{objects_in, objects_test}
use Rattle.values.specs.Objects.{ObjectsInOrder, field_value_at, object_at, object_fits}
use Rattle.values.proofs.ReadLaws.{objects_read, object_run, object_past}

-- a block that is in order is asked
pub ordered_asked : {s b : List ℕ} → InOrder (field_count s) b → ObjectsInOrder s b
ordered_asked o = record { long = o.long; small = o.small; objects = o.areas Objects }

module _ {s b : List ℕ} (a : ObjectsInOrder s b) where
  -- an object that is there, and one that is not
  pub object_there : (o : ℕ) → o < counted b Objects → object (objects_in s b) o ≡ some (object_at (field_count s) b o)
  object_there o h =
      let z : 0 + o ≡ o = omega arith in
      rw (objects_read (field_count s) b a.objects) (object_run (object_at (field_count s) b) 0 (counted b Objects) o h ∙ rw z)

  pub object_absent : (o : ℕ) → counted b Objects ≤ o → object (objects_in s b) o ≡ none
  object_absent o h = rw (objects_read (field_count s) b a.objects) (object_past (object_at (field_count s) b) 0 (counted b Objects) o h)

  -- what an object is asked
  module _ (want : Want) (o : ℕ) where
    pub absent_meets : counted b Objects ≤ o → false ≡ object_test (code_of s) want (object (objects_in s b) o)
    absent_meets h = ap (object_test (code_of s) want) (sym (object_absent o h))

    pub there_meets :
        (class : ℕ) (r : Bool) → o < counted b Objects → class ≡ word_in b Objects o CLASS → r ≡ meets_test (code_of s) class want
        → r ≡ object_test (code_of s) want (object (objects_in s b) o)
    there_meets class r there k q = q ∙ rw k (ap (object_test (code_of s) want) (sym (object_there o there)))

-- what a number is asked, whose type says that it is in range
pub number_meets : (s : Code) (xs : List Object) (v : Value) (want : Want) (z : ℤ) (t : ℕ) (r : Bool)
    → v ≡ int z → InRange z → t ≡ int_of s.program → r ≡ meets_test s t want → r ≡ value_fits_test s xs v want
number_meets s xs v want z t r e h k q = rw (e, (range_exactly z).1 h, ← k) q

-- a test of more than one thing, of which the first is asked first
pub and_yes : (p q r : Bool) → r ≡ p → not r ≡ false → p && q ≡ q
and_yes p q r e h = let y : p ≡ true = sym e ∙ not-false r h in rw y

-- a test of each element of a run, which has come to element i
module _ {A : Type 0} (test : A → Bool) (f : ℕ → A) (n : ℕ) (whole : Bool) where
  pub all_begun : whole ≡ all_of test (run f 0 n) → whole ≡ all_of test (run f 0 (n - 0))
  all_begun e = let z : n - 0 ≡ n = omega arith in rw z e

  module _ (i : ℕ) (left : whole ≡ all_of test (run f i (n - i))) where
    pub all_done : n ≤ i → true ≡ whole
    unfolding run all_of
    all_done h = let z : n - i ≡ 0 = omega arith in sym (rw z at left)

    module _ (r : Bool) (h : i < n) (e : r ≡ test (f i)) where
      next : whole ≡ test (f i) && all_of test (run f (i + 1) (n - (i + 1)))
      unfolding run all_of
      next = let z : n - i ≡ suc (n - (i + 1)) = omega arith in rw z at left

      pub all_no : not r ≡ true → false ≡ whole
      all_no q = and_no (test (f i)) (all_of test (run f (i + 1) (n - (i + 1)))) r e q ∙ sym next

      pub all_more : not r ≡ false → whole ≡ all_of test (run f (i + 1) (n - (i + 1)))
      all_more q = next ∙ and_yes (test (f i)) (all_of test (run f (i + 1) (n - (i + 1)))) r e q

-- two tests of each element
and_all : {A : Type 0} (p q : A → Bool) (l : List A) → all_of p l && all_of q l ≡ all_of (λ x. p x && q x) l
unfolding all_of
and_all p q [] = refl
and_all p q (x ∷ l) = swap (p x) (q x) (all_of p l) (all_of q l) ∙ ap (λ (t : Bool). (p x && q x) && t) (and_all p q l)
  where
    swap : (a b c d : Bool) → (a && c) && (b && d) ≡ (a && b) && (c && d)
    swap true true true d = refl
    swap true true false d = refl
    swap true false true d = refl
    swap true false false d = refl
    swap false b c d = refl

-- a walk over the fields of object i that has come to field j
module _ (s b : List ℕ) (i from count : ℕ) where
  abbrev pub FieldsLeft : ℕ → Type 0
  FieldsLeft j =
      fields_test (code_of s) (objects_in s b) (run (field_at s) from count) (run (field_value_at b i) 0 count)
      ≡ fields_test (code_of s) (objects_in s b) (run (field_at s) (from + j) (count - j)) (run (field_value_at b i) j (count - j))

  pub fields_begun : FieldsLeft 0
  fields_begun = let y : from + 0 ≡ from = omega arith in let z : count - 0 ≡ count = omega arith in rw (y, z) refl

  module _ (j : ℕ) (left : FieldsLeft j) where
    pub fields_done : count ≤ j → true ≡ fields_test (code_of s) (objects_in s b) (run (field_at s) from count) (run (field_value_at b i) 0 count)
    unfolding run
    fields_done h = let z : count - j ≡ 0 = omega arith in sym (rw z at left)

    module _ (t : ℕ) (v : Value) (r : Bool) (h : j < count) (et : t ≡ record_word s fields (from + j) 1) (ev : v ≡ field_value_at b i j)
        (e : r ≡ value_fits_test (code_of s) (objects_in s b) v (upto t)) where
      later : Bool
      later = fields_test (code_of s) (objects_in s b) (run (field_at s) (from + (j + 1)) (count - (j + 1))) (run (field_value_at b i) (j + 1) (count - (j + 1)))

      next_field : fields_test (code_of s) (objects_in s b) (run (field_at s) from count) (run (field_value_at b i) 0 count) ≡ value_fits_test (code_of s) (objects_in s b) v (upto t) && later
      unfolding run field_at later
      next_field =
          let x : count - j ≡ suc (count - (j + 1)) = omega arith in
          let y : from + (j + 1) ≡ from + j + 1 = omega arith in
          rw (et, ev, y) (rw x at left)

      pub fields_no : not r ≡ true → false ≡ fields_test (code_of s) (objects_in s b) (run (field_at s) from count) (run (field_value_at b i) 0 count)
      fields_no q = and_no (value_fits_test (code_of s) (objects_in s b) v (upto t)) later r e q ∙ sym next_field

      pub fields_more : not r ≡ false → FieldsLeft (j + 1)
      unfolding later
      fields_more q = next_field ∙ and_yes (value_fits_test (code_of s) (objects_in s b) v (upto t)) later r e q

-- a walk over the objects that has come to object i
abbrev pub ObjectsLeft : List ℕ → List ℕ → ℕ → ℕ → Type 0
ObjectsLeft s b count i = objects_test (code_of s) (objects_in s b) ≡ all_of (object_fits (code_of s) (objects_in s b)) (run (object_at (field_count s) b) i (count - i))

module _ {s b : List ℕ} (a : ObjectsInOrder s b) where
  pub objects_begun : (count : ℕ) → count ≡ counted b Objects → ObjectsLeft s b count 0
  objects_begun count e =
      all_begun (object_fits (code_of s) (objects_in s b)) (object_at (field_count s) b) count (objects_test (code_of s) (objects_in s b))
      (and_all (is_class_test (code_of s)) (λ x. fields_test (code_of s) (objects_in s b) (fields_of (program_of s) x.class) x.fields) (objects_in s b)
      ∙ rw e (ap (all_of (object_fits (code_of s) (objects_in s b))) (objects_read (field_count s) b a.objects)))

  -- one object, by what its class is declared as
  module _ (i class : ℕ) (e : class ≡ word_in b Objects i CLASS) {d : Declared} (h : DeclaredAs s class d) where
    class_test_lem :
        Decides ((length (program_of s).interfaces < word_in b Objects i CLASS) × (word_in b Objects i CLASS ≤ length (program_of s).interfaces + length (program_of s).classes))
        (is_class_test (code_of s) (object_at (field_count s) b i))
    class_test_lem =
        decides_and (decides_lt (length (program_of s).interfaces) (word_in b Objects i CLASS)) (decides_le (word_in b Objects i CLASS) (length (program_of s).interfaces + length (program_of s).classes))

    no_class : ((c : Class) → declaration_at (program_of s) class ≡ a_class c → ⊥) → false ≡ object_fits (code_of s) (objects_in s b) (object_at (field_count s) b i)
    no_class n =
        let no : is_class_test (code_of s) (object_at (field_count s) b i) ≡ false =
        no_said class_test_lem (λ k. let x = a_class_at (program_of s) class (record { past = rw e k.0; last = rw e k.1 }) in n x.0 x.1)
        in
        rw no refl

    pub object_no_class : ((k : ℕ) → d ≡ is_class k → ⊥) → false ≡ object_fits (code_of s) (objects_in s b) (object_at (field_count s) b i)
    object_no_class n = no_class (go d refl)
      where
        go : (x : Declared) → d ≡ x → (c : Class) → declaration_at (program_of s) class ≡ a_class c → ⊥
        go (is_interface k) q c l = let x = type_interface h q in let z : ◌≡◌ {A = ℕ} 0 1 = cc in omega arith
        go (is_class k) q c l = n k q
        go is-neither q c l = rw l at (type_neither h q)

    module _ {k : ℕ} (q : d ≡ is_class k) where
      own : fields_of (program_of s) class ≡ run (field_at s) (sum_below (own_fields s) k) (own_fields s k)
      unfolding class_at
      own = rw (type_class h q) refl

      own_many : field_count s class ≡ own_fields s k
      own_many = rw own (length_run (field_at s) (sum_below (own_fields s) k) (own_fields s k))

      pub own_few : i < counted b Objects → own_fields s k ≤ CLASS_FIELDS
      own_few l = omega (arith, own_many, ap (field_count s) e, (a.objects.records.each i l).few)

      pub object_class :
          (from count : ℕ) (r : Bool) → from ≡ sum_below (own_fields s) k → count ≡ own_fields s k
          → r ≡ fields_test (code_of s) (objects_in s b) (run (field_at s) from count) (run (field_value_at b i) 0 count)
          → r ≡ object_fits (code_of s) (objects_in s b) (object_at (field_count s) b i)
      object_class from count r p g f =
          let c = class_there h q in
          let w : word_in b Objects i CLASS ≡ class = sym e in
          let yes : is_class_test (code_of s) (object_at (field_count s) b i) ≡ true =
          yes_said class_test_lem (omega (arith, c, length_interfaces s, length_classes s), omega (arith, c, length_interfaces s, length_classes s))
          in
          f ∙ rw yes (rw (w, own, length_run (field_at s) (sum_below (own_fields s) k) (own_fields s k), p, g) refl)
