-- The tests of an area decide what is asked of it.
use mathlib.Core.Path.{◌≡◌}
use mathlib.Core.Bool.{Bool}
use mathlib.Core.List.{List}
use Prim.Native.Nat.{ℕ, ◌+◌, ◌-◌, ◌<◌, ◌≤◌}
use native.Mathlib.Omega.{arith}
use lib.Dec.{eqb}
use Rattle.limits.specs.Limits.{CLASS_FIELDS}
use Rattle.script.specs.Lists.{run}
use Rattle.script.specs.Asking.{Decides}
use Rattle.script.specs.Questions.{all_of}
use Rattle.script.proofs.Lists.{in_run, run_has}
use Rattle.script.proofs.Tests.{decides_as, decides_and, decides_eq, decides_le, decides_all}
use Rattle.block.specs.declared.Area.{Area}
use Rattle.block.specs.declared.Area.TheVariants.{Objects, Bindings}
use Rattle.block.specs.Layout.{VALUE, CLASS, SHUT, field_word, BOUND, width, most, counted, word_in}
use Rattle.block.specs.Values.{value_words, value_in, ValueOk}
use Rattle.block.proofs.Decode.{decides_same}
use Rattle.representation.specs.InOrder.{Unused, ObjectOk, RecordOk, AreaOk}
use Rattle.parts.specs.Parts.{zeros_test, value_ok_test, object_ok_test, binding_ok_test, area_test}

-- what holds of each element of a run by its number holds of each element, and back
decides_run : {A : Type 0} (P : A → Type 0) (test : A → Bool) (f : ℕ → A) (from n : ℕ) → ((x : A) → Decides (P x) (test x))
    → Decides ((i : ℕ) → from ≤ i → i < from + n → P (f i)) (all_of test (run f from n))
decides_run P test f from n d =
    decides_as
    (λ h i l k. h (f i) (run_has f from n i l k))
    (λ h x m. let i = in_run f from n x m in rw i.is (h i.index i.from i.upto))
    (decides_all P test (run f from n) d)

decides_zeros : (w : ℕ → ℕ) (from to : ℕ) → Decides (Unused w from to) (zeros_test w from to)
decides_zeros w from to =
    decides_as (λ h. record { zero = λ j l k. h j l (omega arith) }) (λ u j l k. u.zero j l (omega arith))
    (decides_run (λ (x : ℕ). x ≡ 0) (λ x. eqb x 0) w from (to - from) (λ x. decides_eq x 0))

decides_value : (w : ℕ → ℕ) (j : ℕ) → Decides (ValueOk w j) (value_ok_test w j)
decides_value w j = decides_same (run w j VALUE) (value_words (value_in w j))

decides_object : (field_count : ℕ → ℕ) (w : ℕ → ℕ) → Decides (ObjectOk field_count w) (object_ok_test field_count w)
decides_object field_count w =
    let n = field_count (w CLASS) in
    decides_as
    (λ h. record { shut = h.0; few = h.1.0; values = record { each = λ k l. h.1.1.0 k (omega arith) (omega arith) }; unused = h.1.1.1 })
    (λ o. (o.shut, (o.few, (λ k z l. o.values.each k (omega arith), o.unused))))
    (decides_and (decides_le (w SHUT) 1)
    (decides_and (decides_le n CLASS_FIELDS)
    (decides_and (decides_run (λ j. ValueOk w j) (value_ok_test w) field_word 0 n (decides_value w)) (decides_zeros w (field_word n) (width Objects)))))

decides_area : (field_count : ℕ → ℕ) (a : Area) (ok : (ℕ → ℕ) → Bool) → ((w : ℕ → ℕ) → Decides (RecordOk field_count a w) (ok w)) → (b : List ℕ)
    → Decides (AreaOk field_count b a) (area_test ok b a)
unfolding area_test
decides_area field_count a ok d b =
    let n = counted b a in
    decides_as
    (λ h.
    record {
      few = h.0;
      records = record { each = λ i l. h.1.0 i (omega arith) (omega arith) };
      blank = record { zero = λ i j k l m. (h.1.1 i k (omega arith)).zero j (omega arith) m };
    })
    (λ o. (o.few, (λ i z l. o.records.each i (omega arith), λ i k l. record { zero = λ j z m. o.blank.zero i j k (omega arith) m })))
    (decides_and (decides_le n (most a))
    (decides_and (decides_run (RecordOk field_count a) ok (word_in b a) 0 n d)
    (decides_run (λ w. Unused w 0 (width a)) (λ w. zeros_test w 0 (width a)) (word_in b a) n (most a - n) (λ w. decides_zeros w 0 (width a)))))

-- the two areas that are asked so
pub decides_objects_area : (field_count : ℕ → ℕ) (b : List ℕ) → Decides (AreaOk field_count b Objects) (area_test (object_ok_test field_count) b Objects)
decides_objects_area field_count b = decides_area field_count Objects (object_ok_test field_count) (decides_object field_count) b

pub decides_bindings_area : (field_count : ℕ → ℕ) (b : List ℕ) → Decides (AreaOk field_count b Bindings) (area_test binding_ok_test b Bindings)
decides_bindings_area field_count b = decides_area field_count Bindings binding_ok_test (λ w. decides_value w BOUND) b
