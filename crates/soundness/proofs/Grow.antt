-- What a move does to the stores keeps everything else well formed.
use Prim.Native.Nat.{ℕ, zero, suc, ◌≤◌}
use native.Mathlib.Omega.{arith}
use mathlib.Core.Path.{◌≡◌, refl, ◌∙◌, ap}
use mathlib.Core.List.{List, [], ◌∷◌, ◌++◌, map}
use mathlib.Core.Option.{some, none-ne-some}
use mathlib.Core.Bool.{Bool}
use lib.ListN.{length}
use Rattle.script.specs.Syntax.{Point, Expr, Slot}
use Rattle.machine.specs.declared.Value.{Value}
use Rattle.machine.specs.declared.Frame.{Frame}
use Rattle.machine.specs.Config.{Code, Object, Binding, Stores, Tree}
use Rattle.typing.specs.Members.{fields_of}
use Rattle.machine.specs.Machine.{scope, slot, context, object, set_shut, set_fields}
use Rattle.machine.specs.declared.Want.{Want}
use Rattle.machine.specs.WellFormed.{ValueFits, fits_nil, fits_ref, fits_int, Gives, NodeGives, BindingsOk, no_bindings, a_binding, FieldsOk, no_fields, a_field, TypedObject, FramesOk, no_frames, a_node, a_cast, a_lock, TreeOk, running_ok, returning_ok, failed_ok, join_ok}
use Rattle.machine.specs.Promise.{KeepsObjects}
use Rattle.soundness.proofs.Stores.{keeps_same, scope_older}

-- Objects keep their classes, and environments their bindings.
pub record Grows (st su : Stores) : Type 0 where
  pub objects : KeepsObjects st.objects su.objects
  pub added : List Binding
  pub grown : su.bindings ≡ added ++ st.bindings
  pub more : length st.bindings ≤ length su.bindings
  pub same : (e : ℕ) → e ≤ length st.bindings → scope su.bindings e ≡ scope st.bindings e

pub fits_grows : {s : Code} {xs ys : List Object} {v : Value} {w : Want} → KeepsObjects xs ys → ValueFits s xs v w → ValueFits s ys v w
fits_grows g (fits_nil m) = fits_nil m
fits_grows {s} g (fits_ref {o = o} {x = x} {w = w} h m) =
    let k = g o x h in
    fits_ref {w = w} k.there (rw k.class m)
fits_grows g (fits_int r m) = fits_int r m

pub bindings_grow : {s : Code} {xs ys : List Object} {bs : List Binding} → KeepsObjects xs ys → BindingsOk s xs bs → BindingsOk s ys bs
bindings_grow g no_bindings = no_bindings
bindings_grow g (a_binding h ok) =
    a_binding (record { name = h.name; type = h.type; link = h.link; value = fits_grows g h.value }) (bindings_grow g ok)

context_same : {st su : Stores} → Grows st su → (e : ℕ) → e ≤ length st.bindings → context su.bindings e ≡ context st.bindings e
context_same g e h = ap (map slot) (g.same e h)

module _ {s : Code} {st su : Stores} (g : Grows st su) where
  gives_grows : {a : Expr} {w : Want} (e : ℕ) → e ≤ length st.bindings → Gives s (context st.bindings e) a w → Gives s (context su.bindings e) a w
  gives_grows e h p = rw (context_same g e h) p

  pub at_grows : {a : Point} {w : Want} (e : ℕ) → e ≤ length st.bindings → NodeGives s (context st.bindings e) a w → NodeGives s (context su.bindings e) a w
  at_grows e h p = record { node = p.node; gives = gives_grows e h p.gives }

  pub frames_grow : {w v : Want} {fs : List Frame} → FramesOk s st.bindings w fs v → FramesOk s su.bindings w fs v
  frames_grow no_frames = no_frames
  frames_grow (a_node {n = n} {e = e} {t = t} {v = v} i h p r) =
      a_node {n = n} {e = e} {t = t} {v = v} i (omega (arith, g.more)) (rw (context_same g e h) p) (frames_grow r)
  frames_grow (a_cast i h m r) = a_cast i h m (frames_grow r)
  frames_grow (a_lock r) = a_lock (frames_grow r)

  pub tree_grows : {w : Want} {t : Tree} → TreeOk s st w t → TreeOk s su w t
  tree_grows (running_ok {e = e} h p r) = running_ok {e = e} (omega (arith, g.more)) (at_grows e h p) (frames_grow r)
  tree_grows (returning_ok f r) = returning_ok (fits_grows g.objects f) (frames_grow r)
  tree_grows failed_ok = failed_ok
  tree_grows (join_ok {e = e} h p r x y) =
      join_ok {e = e} (omega (arith, g.more)) (at_grows e h p) (frames_grow r) (tree_grows x) (tree_grows y)

pub grows_same : (st : Stores) → Grows st st
grows_same st = record { objects = keeps_same st.objects; added = []; grown = refl; more = omega arith; same = λ e h. refl }

pub grows_objects : (st : Stores) (ys : List Object) → KeepsObjects st.objects ys → Grows st (record { objects = ys; bindings = st.bindings })
grows_objects st ys k = record { objects = k; added = []; grown = refl; more = omega arith; same = λ e h. refl }

pub grows_binding : (st : Stores) (b : Binding) → Grows st (record { objects = st.objects; bindings = b ∷ st.bindings })
grows_binding st b = record { objects = keeps_same st.objects; added = b ∷ []; grown = refl; more = omega arith; same = λ e h. scope_older b st.bindings e h }

pub grows_call : (st : Stores) (b c : Binding) → Grows st (record { objects = st.objects; bindings = c ∷ b ∷ st.bindings })
grows_call st b c =
    record {
      objects = keeps_same st.objects;
      added = c ∷ b ∷ [];
      grown = refl;
      more = omega arith;
      same = λ e h. scope_older c (b ∷ st.bindings) e (omega arith) ∙ scope_older b st.bindings e h;
    }

-- the heap after a change
pub fields_grow : {s : Code} {xs ys : List Object} {ds : List Slot} {l : List Value} → KeepsObjects xs ys → FieldsOk s xs ds l → FieldsOk s ys ds l
fields_grow g no_fields = no_fields
fields_grow g (a_field f fs) = a_field (fits_grows g f) (fields_grow g fs)

abbrev pub HeapOk : Code → List Object → List Object → Type 0
HeapOk s xs ys = (o : ℕ) (x : Object) → object ys o ≡ some x → TypedObject s xs x

pub heap_grows : {s : Code} {xs ys : List Object} (zs : List Object) → KeepsObjects xs ys → HeapOk s xs zs → HeapOk s ys zs
heap_grows zs g h o x e = let k = h o x e in record { class = k.class; fields = fields_grow g k.fields }

pub heap_append : {s : Code} {zs : List Object} (xs : List Object) (y : Object) → HeapOk s zs xs → TypedObject s zs y → HeapOk s zs (xs ++ (y ∷ []))
heap_append [] y h k zero x e = let i : y ≡ x = cc in rw i at k
heap_append [] y h k (suc o) x e = absurd (none-ne-some _ e)
heap_append (z ∷ xs) y h k zero x e = h zero x e
heap_append (z ∷ xs) y h k (suc o) x e = heap_append xs y (λ p. h (suc p)) k o x e

same_object : {s : Code} {zs : List Object} {z : Object} (b : Bool) → TypedObject s zs z → TypedObject s zs (record { class = z.class; shut = b; fields = z.fields })
same_object b k = record { class = k.class; fields = k.fields }

new_fields : {s : Code} {zs : List Object} {z : Object} (l : List Value) → TypedObject s zs z → FieldsOk s zs (fields_of s.program z.class) l
    → TypedObject s zs (record { class = z.class; shut = z.shut; fields = l })
new_fields l k f = record { class = k.class; fields = f }

pub heap_shut : {s : Code} {zs : List Object} (b : Bool) (xs : List Object) (p : ℕ) → HeapOk s zs xs → HeapOk s zs (set_shut b xs p)
heap_shut b [] p h o x e = absurd (none-ne-some _ e)
heap_shut {s} {zs} b (z ∷ xs) zero h zero x e =
    let k = h zero z refl in
    let i : record { class = z.class; shut = b; fields = z.fields } ≡ x = cc in
    rw i at (same_object b k)
heap_shut b (z ∷ xs) zero h (suc o) x e = h (suc o) x e
heap_shut b (z ∷ xs) (suc p) h zero x e = h zero x e
heap_shut b (z ∷ xs) (suc p) h (suc o) x e = heap_shut b xs p (λ q. h (suc q)) o x e

pub heap_fields : {s : Code} {zs : List Object} (l : List Value) (xs : List Object) (p : ℕ) → HeapOk s zs xs
    → ((y : Object) → object xs p ≡ some y → FieldsOk s zs (fields_of s.program y.class) l) → HeapOk s zs (set_fields l xs p)
heap_fields l [] p h k o x e = absurd (none-ne-some _ e)
heap_fields l (z ∷ xs) zero h k zero x e =
    let i : record { class = z.class; shut = z.shut; fields = l } ≡ x = cc in
    rw i at (new_fields l (h zero z refl) (k z refl))
heap_fields l (z ∷ xs) zero h k (suc o) x e = h (suc o) x e
heap_fields l (z ∷ xs) (suc p) h k zero x e = h zero x e
heap_fields l (z ∷ xs) (suc p) h k (suc o) x e = heap_fields l xs p (λ q. h (suc q)) k o x e
