-- Laws of the stores: bindings only grow, an object keeps its class, and what a lock changes.
use Prim.Native.Nat.{ℕ, zero, suc, ◌+◌, ◌<◌, ◌≤◌}
use native.Mathlib.Omega.{arith}
use mathlib.Core.Path.{◌≡◌, refl, sym, ap}
use mathlib.Core.Bool.{Bool, true, false, cond}
use mathlib.Core.List.{List, [], ◌∷◌, ◌++◌, map}
use mathlib.Core.Option
use mathlib.Core.Option.{some, none-ne-some}
use lib.Dec.{eqb, eqb-zero-suc, eqb-suc-zero, eqb-suc-suc}
use lib.ListN.{length}
use borrow.Author.Tests.{eq-eqb, ne_eqb}
use Rattle.script.specs.Lists.{named}
use Rattle.script.specs.Syntax.{Slot}
use Rattle.typing.specs.Members.{type_in}
use Rattle.machine.specs.declared.Value.{Value}
use Rattle.machine.specs.Config.{Code, Object, Binding}
use Rattle.machine.specs.Machine.{scope, slot, context, find, object, set_shut, set_fields, field_value, set_field, initials, one_if}
use Rattle.machine.specs.declared.Want.TheVariants.{Upto as upto}
use Rattle.machine.specs.WellFormed.{ValueFits, BindingsOk, no_bindings, a_binding, FieldsOk, no_fields, a_field, shut_at}
use Rattle.machine.specs.Promise.{KeepsObjects}
use Rattle.soundness.proofs.Values.{initial_fits}

-- either branch of a test
cond_both {ℓ κ} : {A : Type ℓ} (P : A → Type κ) (t : Bool) {x y : A} → P x → P y → P (cond t x y)
cond_both P true p q = p
cond_both P false p q = q

pub scope_older : (b : Binding) (bs : List Binding) (e : ℕ) → e ≤ length bs → scope (b ∷ bs) e ≡ scope bs e
scope_older b bs e h = rw (ne_eqb e (suc (length bs)) (λ p. omega arith))

pub scope_newest : (b : Binding) (bs : List Binding) → scope (b ∷ bs) (suc (length bs)) ≡ b ∷ scope bs b.link
scope_newest b bs = rw (eq-eqb (suc (length bs)) (suc (length bs)) refl)

pub scope_empty : (bs : List Binding) → scope bs 0 ≡ []
scope_empty [] = refl
scope_empty (b ∷ bs) = rw (ne_eqb 0 (suc (length bs)) (λ p. omega arith)) (scope_empty bs)

data AllFit (s : Code) (xs : List Object) : List Binding → Type 0 where
  none_left : AllFit s xs []
  one_more : {b : Binding} {l : List Binding} → ValueFits s xs b.value (upto b.type) → AllFit s xs l → AllFit s xs (b ∷ l)

scope_fits : {s : Code} {xs : List Object} {bs : List Binding} → BindingsOk s xs bs → (e : ℕ) → AllFit s xs (scope bs e)
scope_fits no_bindings e = none_left
scope_fits {s} {xs} (a_binding {b = b} {bs = bs} h ok) e =
    cond_both (AllFit s xs) (eqb e (suc (length bs))) (one_more h.value (scope_fits ok b.link)) (scope_fits ok e)

-- a variable that has a type has a binding with a value that fits
pub record FitBinding (s : Code) (xs : List Object) (l : List Binding) (x t : ℕ) : Type 0 where
  pub binding : Binding
  pub there : find l x ≡ some binding
  pub fits : ValueFits s xs binding.value (upto t)

module _ {s : Code} {xs : List Object} where
  fit_step :
      (b : Binding) (l : List Binding) (x t : ℕ) → ValueFits s xs b.value (upto b.type) → (type_in (map slot l) x ≡ some t → FitBinding s xs l x t)
      → (q : Bool) → eqb b.name x ≡ q → Option.map (λ (d : Slot). d.type) (cond q (some (slot b)) (named (λ (d : Slot). d.name) x (map slot l))) ≡ some t → FitBinding s xs (b ∷ l) x t
  unfolding type_in named
  fit_step b l x t f rec true p h =
      let e : b.type ≡ t = cc in
      record { binding = b; there = rw p; fits = rw e at f }
  fit_step b l x t f rec false p h =
      let r = rec h in
      record { binding = r.binding; there = rw p r.there; fits = r.fits }

  fit_in : {l : List Binding} → AllFit s xs l → (x t : ℕ) → type_in (map slot l) x ≡ some t → FitBinding s xs l x t
  unfolding type_in named
  fit_in none_left x t h = absurd (none-ne-some _ h)
  fit_in (one_more {b = b} {l = l} f fs) x t h = fit_step b l x t f (fit_in fs x t) (eqb b.name x) refl h

  pub fit_binding : {bs : List Binding} (e x t : ℕ) → BindingsOk s xs bs → type_in (context bs e) x ≡ some t → FitBinding s xs (scope bs e) x t
  fit_binding e x t ok h = fit_in (scope_fits ok e) x t h

-- Objects stay there and keep their classes, whatever is made, shut, opened or written.
pub keeps_same : (xs : List Object) → KeepsObjects xs xs
keeps_same xs o x h = record { later = x; there = h; class = refl }

pub keeps_append : (xs l : List Object) → KeepsObjects xs (xs ++ l)
keeps_append [] l o x h = absurd (none-ne-some _ h)
keeps_append (y ∷ xs) l zero x h = record { later = x; there = h; class = refl }
keeps_append (y ∷ xs) l (suc o) x h = let k = keeps_append xs l o x h in record { later = k.later; there = k.there; class = k.class }

pub keeps_shut : (b : Bool) (xs : List Object) (p : ℕ) → KeepsObjects xs (set_shut b xs p)
keeps_shut b [] p o x h = absurd (none-ne-some _ h)
keeps_shut b (y ∷ xs) zero zero x h =
    let e : y ≡ x = cc in
    record { later = record { class = y.class; shut = b; fields = y.fields }; there = refl; class = ap (λ (z : Object). z.class) e }
keeps_shut b (y ∷ xs) zero (suc o) x h = record { later = x; there = h; class = refl }
keeps_shut b (y ∷ xs) (suc p) zero x h = record { later = x; there = h; class = refl }
keeps_shut b (y ∷ xs) (suc p) (suc o) x h =
    let k = keeps_shut b xs p o x h in
    record { later = k.later; there = k.there; class = k.class }

pub keeps_fields : (l : List Value) (xs : List Object) (p : ℕ) → KeepsObjects xs (set_fields l xs p)
keeps_fields l [] p o x h = absurd (none-ne-some _ h)
keeps_fields l (y ∷ xs) zero zero x h =
    let e : y ≡ x = cc in
    record { later = record { class = y.class; shut = y.shut; fields = l }; there = refl; class = ap (λ (z : Object). z.class) e }
keeps_fields l (y ∷ xs) zero (suc o) x h = record { later = x; there = h; class = refl }
keeps_fields l (y ∷ xs) (suc p) zero x h = record { later = x; there = h; class = refl }
keeps_fields l (y ∷ xs) (suc p) (suc o) x h =
    let k = keeps_fields l xs p o x h in
    record { later = k.later; there = k.there; class = k.class }

pub object_last : (xs : List Object) (x : Object) → object (xs ++ (x ∷ [])) (length xs) ≡ some x
object_last [] x = refl
object_last (y ∷ xs) x = object_last xs x

pub object_below : (xs : List Object) (o : ℕ) (x : Object) → object xs o ≡ some x → o < length xs
object_below [] o x h = absurd (none-ne-some _ h)
object_below (y ∷ xs) zero x h = omega arith
object_below (y ∷ xs) (suc o) x h = omega (arith, object_below xs o x h)

pub shut_at_new : (xs : List Object) (c : ℕ) (l : List Value) (o : ℕ) → shut_at (xs ++ (record { class = c; shut = false; fields = l } ∷ [])) o ≡ shut_at xs o
shut_at_new [] c l zero = refl
shut_at_new [] c l (suc o) = refl
shut_at_new (y ∷ xs) c l zero = refl
shut_at_new (y ∷ xs) c l (suc o) = shut_at_new xs c l o

one_if_le : (b : Bool) → one_if b ≤ 1
one_if_le true = omega arith
one_if_le false = omega arith

pub shut_at_le : (xs : List Object) (o : ℕ) → shut_at xs o ≤ 1
shut_at_le [] o = omega arith
shut_at_le (x ∷ xs) zero = one_if_le x.shut
shut_at_le (x ∷ xs) (suc o) = shut_at_le xs o

pub shut_at_object : (xs : List Object) (o : ℕ) (x : Object) → object xs o ≡ some x → shut_at xs o ≡ one_if x.shut
shut_at_object [] o x h = absurd (none-ne-some _ h)
shut_at_object (y ∷ xs) zero x h = let e : y ≡ x = cc in ap (λ (z : Object). one_if z.shut) e
shut_at_object (y ∷ xs) (suc o) x h = shut_at_object xs o x h

-- opening a shut object, and shutting an open one
pub opens : (xs : List Object) (o p : ℕ) → shut_at xs o ≡ 1 → shut_at (set_shut false xs o) p + one_if (eqb p o) ≡ shut_at xs p
opens [] o p h = omega arith
opens (x ∷ xs) zero zero h = sym h
opens (x ∷ xs) zero (suc p) h = rw (eqb-suc-zero p) (omega arith)
opens (x ∷ xs) (suc o) zero h = rw (eqb-zero-suc o) (omega arith)
opens (x ∷ xs) (suc o) (suc p) h = rw (eqb-suc-suc p o) (opens xs o p h)

pub shuts : (xs : List Object) (o p : ℕ) (x : Object) → object xs o ≡ some x → x.shut ≡ false → shut_at (set_shut true xs o) p ≡ shut_at xs p + one_if (eqb p o)
shuts [] o p x h k = absurd (none-ne-some _ h)
shuts (y ∷ xs) zero zero x h k = let e : y.shut ≡ false = cc in rw e
shuts (y ∷ xs) zero (suc p) x h k = rw (eqb-suc-zero p) (omega arith)
shuts (y ∷ xs) (suc o) zero x h k = rw (eqb-zero-suc o) (omega arith)
shuts (y ∷ xs) (suc o) (suc p) x h k = rw (eqb-suc-suc p o) (shuts xs o p x h k)

pub shut_at_fields : (l : List Value) (xs : List Object) (o p : ℕ) → shut_at (set_fields l xs o) p ≡ shut_at xs p
shut_at_fields l [] o p = refl
shut_at_fields l (x ∷ xs) zero zero = refl
shut_at_fields l (x ∷ xs) zero (suc p) = refl
shut_at_fields l (x ∷ xs) (suc o) zero = refl
shut_at_fields l (x ∷ xs) (suc o) (suc p) = shut_at_fields l xs o p

-- a declared field has a value that fits
pub record FitField (s : Code) (xs : List Object) (ds : List Slot) (l : List Value) (f u : ℕ) : Type 0 where
  pub value : Value
  pub there : field_value ds l f ≡ some value
  pub fits : ValueFits s xs value (upto u)

module _ {s : Code} {xs : List Object} where
  field_step :
      (d : Slot) (ds : List Slot) (v : Value) (l : List Value) (f u : ℕ) → ValueFits s xs v (upto d.type) → (type_in ds f ≡ some u → FitField s xs ds l f u)
      → (q : Bool) → eqb d.name f ≡ q → Option.map (λ (b : Slot). b.type) (cond q (some d) (named (λ (b : Slot). b.name) f ds)) ≡ some u → FitField s xs (d ∷ ds) (v ∷ l) f u
  unfolding type_in
  field_step d ds v l f u k rec true p h = let e : d.type ≡ u = cc in record { value = v; there = rw p; fits = rw e at k }
  field_step d ds v l f u k rec false p h = let r = rec h in record { value = r.value; there = rw p r.there; fits = r.fits }

  pub fit_field : {ds : List Slot} {l : List Value} → FieldsOk s xs ds l → (f u : ℕ) → type_in ds f ≡ some u → FitField s xs ds l f u
  unfolding type_in named
  fit_field no_fields f u h = absurd (none-ne-some _ h)
  fit_field (a_field {d = d} {ds = ds} {v = v} {l = l} k ks) f u h = field_step d ds v l f u k (fit_field ks f u) (eqb d.name f) refl h

  set_step :
      (d : Slot) (ds : List Slot) (v x : Value) (l : List Value) (f u : ℕ) → ValueFits s xs x (upto u) → ValueFits s xs v (upto d.type) → FieldsOk s xs ds l
      → (type_in ds f ≡ some u → FieldsOk s xs ds (set_field x ds l f)) → (q : Bool)
      → Option.map (λ (b : Slot). b.type) (cond q (some d) (named (λ (b : Slot). b.name) f ds)) ≡ some u
      → FieldsOk s xs (d ∷ ds) (cond q (x ∷ l) (v ∷ set_field x ds l f))
  unfolding type_in
  set_step d ds v x l f u j k ks rec true h = let e : u ≡ d.type = cc in a_field (rw e at j) ks
  set_step d ds v x l f u j k ks rec false h = a_field k (rec h)

  pub set_field_lem : {ds : List Slot} {l : List Value} (x : Value) → FieldsOk s xs ds l → (f u : ℕ) → type_in ds f ≡ some u → ValueFits s xs x (upto u) → FieldsOk s xs ds (set_field x ds l f)
  unfolding type_in named
  set_field_lem x no_fields f u h j = no_fields
  set_field_lem x (a_field {d = d} {ds = ds} {v = v} {l = l} k ks) f u h j =
      set_step d ds v x l f u j k ks (λ e. set_field_lem x ks f u e j) (eqb d.name f) h

  pub fields_long : {ds : List Slot} {l : List Value} → FieldsOk s xs ds l → length l ≡ length ds
  fields_long no_fields = refl
  fields_long (a_field h k) = ap suc (fields_long k)

  pub initials_ok : (ds : List Slot) → FieldsOk s xs ds (initials s.program ds)
  initials_ok [] = no_fields
  initials_ok (d ∷ ds) = a_field (initial_fits s xs d.type) (initials_ok ds)
