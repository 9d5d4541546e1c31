-- What each return of a move of a thread with a value comes to: the callees' contracts are premises, and the code's locals variables.
use mathlib.Core.Path.{◌≡◌, refl, ap, subst}
use mathlib.Core.Bool.{Bool, false}
use mathlib.Core.Logic.{⊎_elim}
use mathlib.Core.List.{List, [], ◌∷◌}
use mathlib.Core.Option.{none, some}
use Prim.Native.Nat.{ℕ, zero, suc, ◌<◌, ◌≤◌}
use native.Mathlib.Omega.{arith}
use lib.ListN.{length, get_or, set, length-set}
use Rattle.words.specs.Word.{bytes}
use Rattle.std.specs.declared.option.Option.{Option as CodeOption}
use Rattle.std.specs.declared.option.Option.TheVariants.{Some, None}
use Rattle.script.specs.Lists.{◌∈◌}
use Rattle.script.specs.Syntax.{Program}
use Rattle.sections.specs.Laid.{found_of}
use Rattle.members.proofs.LookupLaws.{found_at, found_nothing}
use Rattle.machine.specs.declared.Value.{Value}
use Rattle.machine.specs.Config as machine
use Rattle.machine.specs.Config.{Object, Stores}
use Rattle.typing.specs.Members.{fields_of}
use Rattle.machine.specs.Machine.{object, set_shut, set_fields, set_field, with_shut}
use Rattle.block.specs.declared.Area.TheVariants.{Objects}
use Rattle.block.specs.Layout.{counted, word_in}
use Rattle.block.specs.Values.{Storable}
use Rattle.block.specs.Block.{laid}
use Rattle.representation.specs.Changed.{with_objects, with_field}
use Rattle.classes.specs.Defined.{field_number}
use Rattle.classes.proofs.FieldLaws.{number_below}
use Rattle.moves.proofs.FieldValues.{set_at, set_none}
use Rattle.environments.proofs.LaidLaws.{field_set}
use Rattle.state.specs.Represents.{Rest, StateAt}
use Rattle.state.proofs.Seeing.{seen_few, objects_counted}
use Rattle.state.proofs.Storing.{set_in}
use Rattle.state.proofs.Moves.{lies, seen_objects}
use Rattle.initials.proofs.InitialLaws.{PutsField}
use Rattle.moves.proofs.TargetLaws.{blank_object, object_is, object_in_lem}
use Rattle.moves.proofs.FrameLaws.{class_read}

-- an object that is not there
shut_absent : (h : Bool) (xs : List Object) (o : ℕ) → length xs ≤ o → set_shut h xs o ≡ xs
shut_absent h [] o l = refl
shut_absent h (x ∷ xs) zero l = absurd (omega arith)
shut_absent h (x ∷ xs) (suc o) l = ap (λ (ys : List Object). x ∷ ys) (shut_absent h xs o (omega arith))

fields_same : (xs : List Object) (o : ℕ) (y : Object) → object xs o ≡ some y → set_fields y.fields xs o ≡ xs
fields_same [] o y e = refl
fields_same (x ∷ xs) zero y e = let z : x ≡ y = cc in rw (← z)
fields_same (x ∷ xs) (suc o) y e = ap (λ (ys : List Object). x ∷ ys) (fields_same xs o y e)

-- an object with another storable value
field_storable : (y : Object) (k : ℕ) (v : Value) → Storable v → ((w : Value) → w ∈ y.fields → Storable w)
    → (w : Value) → w ∈ (with_field y k v).fields → Storable w
field_storable y k v fits all w m = ⊎_elim (λ (q : w ≡ v). rw q fits) (all w) (set_in y.fields k v w m)

module _ {b : List ℕ} {i : ℕ} {x : Rest} {st : Stores} {u : machine.Tree} (s : StateAt b i x st u) where
  -- one object changed
  changed : {c : List ℕ} (o : ℕ) (y : Object) → ((v : Value) → v ∈ y.fields → Storable v)
      → c ≡ bytes (laid (with_objects (lies s) (set st.objects o y)))
      → StateAt c i x (record { objects = set st.objects o y; bindings = st.bindings }) u
  changed o y fits e = seen_objects s (set st.objects o y) (omega (arith, length-set st.objects o y, objects_counted s, seen_few s Objects)) all e
    where
      all : (d : Object) → d ∈ set st.objects o y → (v : Value) → v ∈ d.fields → Storable v
      all d m v n =
          ⊎_elim
          (λ (q : d ≡ y). fits v (subst (λ (z : Object). v ∈ z.fields) q n))
          (λ (l : d ∈ st.objects). s.storable Objects d l v n)
          (set_in st.objects o y d m)

  -- the object of a lock opened, if there is one
  pub opens_none : (o n : ℕ) → n ≡ counted b Objects → n ≤ o → StateAt b i x (with_shut false st o) u
  opens_none o n e l = rw (shut_absent false st.objects o (omega (arith, objects_counted s))) s

  -- a field that the object's class does not have, and one that it has
  module _ (p : Program) (o class f : ℕ) (v : Value) (y : Object) (h : object st.objects o ≡ some y) (e : class ≡ word_in b Objects o 0) (found : CodeOption ℕ)
      (q : found ≡ found_of (field_number (fields_of p class) f)) where
    pub writes_none : found ≡ None
        → StateAt b i x (record { objects = set_fields (set_field v (fields_of p y.class) y.fields f) st.objects o; bindings = st.bindings }) u
    writes_none k =
        let n : field_number (fields_of p y.class) f ≡ none = found_nothing (field_number (fields_of p y.class) f) found (rw (class_read s o class y h e) at q) k in
        rw (set_none (fields_of p y.class) y.fields f v n, fields_same st.objects o y h) s

    pub writes : {c : List ℕ} (k : ℕ) → length y.fields ≡ length (fields_of p y.class) → found ≡ Some k → Storable v → PutsField b c o k v
        → StateAt c i x (record { objects = set_fields (set_field v (fields_of p y.class) y.fields f) st.objects o; bindings = st.bindings }) u
    writes {c} k own a fits stored =
        let ds = fields_of p y.class in
        let n : field_number ds f ≡ some k = found_at (field_number ds f) found (rw (class_read s o class y h e) at q) k a in
        let r = object_is st.objects o y blank_object h in
        let there : k < length (get_or st.objects o blank_object).fields = rw r.1 (omega (arith, own, number_below ds f k n)) in
        let now : set_fields (set_field v ds y.fields f) st.objects o ≡ set st.objects o (with_field (get_or st.objects o blank_object) k v) =
        rw (set_at ds y.fields f v k n, ← r.1) (field_set st.objects o k v blank_object)
        in
        let values = field_storable y k v fits (s.storable Objects y (object_in_lem st.objects o y h)) in
        rw now (changed o (with_field (get_or st.objects o blank_object) k v) (rw r.1 values) (stored (lies s) blank_object s.block r.0 there))
