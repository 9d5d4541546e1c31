-- The numbers of fields, and what the code of their look-up answers: a law for each return, with the callees' results as variables.
use mathlib.Core.Path.{◌≡◌, refl, sym}
use mathlib.Core.Bool.{Bool, true, false, cond, not}
use mathlib.Core.List.{List, [], ◌∷◌}
use mathlib.Core.Option.{Option, none, some, map}
use Prim.Native.Nat.{ℕ, zero, suc, ◌+◌, ◌-◌, ◌<◌, ◌≤◌}
use native.Mathlib.Omega.{arith}
use lib.Dec.{eqb}
use lib.ListN.{length}
use Rattle.limits.specs.Limits.{CLASS_FIELDS}
use Rattle.std.specs.declared.option.Option.{Option as CodeOption}
use Rattle.std.specs.declared.option.Option.TheVariants.{Some, None}
use Rattle.script.specs.declared.Section.TheVariants.{Fields as fields}
use Rattle.script.specs.Lists.{run, sum_below}
use Rattle.script.specs.Section.{record_word}
use Rattle.script.specs.Syntax.{Slot, Declaration, a_unit, an_interface, a_class, an_int, no_type, declaration_at}
use Rattle.script.specs.Reading.{own_fields, field_at, class_at, program_of}
use Rattle.script.specs.Asking.{first_out_of}
use Rattle.script.specs.Statements.{WithinLayout}
use Rattle.sections.specs.Laid.{found_of, other_name}
use Rattle.script.proofs.Lists.{length_run}
use Rattle.script.proofs.Declarations.{class_from}
use Rattle.subtypes.specs.declared.Declared.{Declared}
use Rattle.subtypes.specs.declared.Declared.TheVariants.{Class as is_class}
use Rattle.subtypes.specs.Subtypes.{DeclaredAs}
use Rattle.members.specs.Lookup.{own_named}
use Rattle.subtypes.proofs.SubtypeLaws.{type_class, but_class}
use Rattle.members.proofs.LookupLaws.{found_at, found_nothing}
use Rattle.typing.specs.Members.{fields_from, fields_of}
use Rattle.classes.specs.Defined.{field_number}

-- the number of a field is below how many there are
below_next : {n : ℕ} (b : Bool) (r : Option ℕ) → ((k : ℕ) → r ≡ some k → k < n) → (k : ℕ) → cond b (some 0) (map suc r) ≡ some k → k < suc n
below_next true r h k e = let z : 0 ≡ k = cc in omega arith
below_next false none h k e = absurd (let z : ◌≡◌ {A = ℕ} 0 1 = cc in omega arith)
below_next false (some j) h k e = let z : suc j ≡ k = cc in omega (arith, h j refl)

pub number_below : (ds : List Slot) (f k : ℕ) → field_number ds f ≡ some k → k < length ds
number_below [] f k e = absurd (let z : ◌≡◌ {A = ℕ} 0 1 = cc in omega arith)
number_below (d ∷ ds) f k e = below_next (eqb d.name f) (field_number ds f) (number_below ds f) k e

-- a class has as many fields as its record counts
class_few : (s : List ℕ) (c : ℕ) → own_fields s c ≤ CLASS_FIELDS → length (class_at s c).fields ≤ CLASS_FIELDS
unfolding class_at
class_few s c h = rw (length_run (field_at s) (sum_below (own_fields s) c) (own_fields s c)) h

-- Question 8: a class of the script has at most 8 fields. No other type has any.
module _ {s : List ℕ} (w : WithinLayout s) (t : ℕ) where
  pub fields_few : length (fields_of (program_of s) t) ≤ CLASS_FIELDS
  fields_few = go (declaration_at (program_of s) t) refl
    where
      go : (x : Declaration) → declaration_at (program_of s) t ≡ x → length (fields_from x) ≤ CLASS_FIELDS
      go a_unit e = omega arith
      go (an_interface i) e = omega arith
      go (a_class c) e = let x = class_from s t c e in rw x.3 (class_few s x.0 (w.names_are.1.0 x.0 x.1))
      go an_int e = omega arith
      go no_type e = omega arith

  -- So a place that is found is below 8.
  pub placed : (f : ℕ) (r : CodeOption ℕ) → r ≡ found_of (field_number (fields_of (program_of s) t) f) → (k : ℕ) → r ≡ Some k → k < CLASS_FIELDS
  placed f r e k q =
      let n = field_number (fields_of (program_of s) t) f in
      omega (arith, fields_few, number_below (fields_of (program_of s) t) f k (found_at n r e k q))

-- A record that a search through the n from i on finds, if it finds one, and its number among them.
data Numbered (i n : ℕ) : Option ℕ → Option ℕ → Type 0 where
  no_record : Numbered i n none none
  number_at : {j k : ℕ} → j ≡ i + k → k < n → Numbered i n (some j) (some k)

module _ (s : List ℕ) (f : ℕ) where
  run_numbered : (i n : ℕ) → Numbered i n (first_out_of (other_name s fields f) i n) (field_number (run (field_at s) i n) f)
  unfolding run first_out_of field_at
  run_numbered i zero = no_record
  run_numbered i (suc n) = go (eqb (record_word s fields i 0) f) (run_numbered (i + 1) n)
    where
      go : (b : Bool) {x y : Option ℕ} → Numbered (i + 1) n x y → Numbered i (suc n) (cond (not b) x (some i)) (cond b (some 0) (map suc y))
      go true r = number_at {j = i} {k = 0} (omega arith) (omega arith)
      go false no_record = no_record
      go false (number_at {j = j} {k = k} e l) = number_at {j = j} {k = suc k} (omega arith) (omega arith)

-- The place of a field: in a class the number of the first record of its run with the name, and no other type has any.
module _ {s : List ℕ} {t : ℕ} {d : Declared} (h : DeclaredAs s t d) (f : ℕ) where
  module _ {c : ℕ} (e : d ≡ is_class c) (found : CodeOption ℕ) (o : found ≡ found_of (own_named s fields c f)) where
    class_numbered : {x : Option ℕ} → own_named s fields c f ≡ x → Numbered (sum_below (own_fields s) c) (own_fields s c) x (field_number (fields_of (program_of s) t) f)
    unfolding class_at
    class_numbered q = rw (type_class h e, ← q) (run_numbered s f (sum_below (own_fields s) c) (own_fields s c))

    pub place_miss : found ≡ None → None ≡ found_of (field_number (fields_of (program_of s) t) f)
    place_miss q = go (class_numbered (found_nothing (own_named s fields c f) found o q))
      where
        go : {y : Option ℕ} → Numbered (sum_below (own_fields s) c) (own_fields s c) none y → None ≡ found_of y
        go no_record = refl

    module _ (i from : ℕ) (q : found ≡ Some i) (b : from ≡ sum_below (own_fields s) c) where
      pub place_past : from ≤ i
      place_past = go (class_numbered (found_at (own_named s fields c f) found o i q))
        where
          go : {y : Option ℕ} → Numbered (sum_below (own_fields s) c) (own_fields s c) (some i) y → from ≤ i
          go (number_at p l) = omega arith

      pub place_hit : Some (i - from) ≡ found_of (field_number (fields_of (program_of s) t) f)
      place_hit = go (class_numbered (found_at (own_named s fields c f) found o i q))
        where
          go : {y : Option ℕ} → Numbered (sum_below (own_fields s) c) (own_fields s c) (some i) y → Some (i - from) ≡ found_of y
          go (number_at {k = k} p l) = let z : i - from ≡ k = omega arith in rw z

  -- Any other type has no fields.
  pub place_none : ((c : ℕ) → d ≡ is_class c → ⊥) → None ≡ found_of (field_number (fields_of (program_of s) t) f)
  place_none n = sym (but_class (λ x. found_of (field_number (fields_from x) f)) None refl (λ i. refl) refl refl h n)
