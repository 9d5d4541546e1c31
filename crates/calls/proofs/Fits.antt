-- A well-formed configuration of an accepted script fits in a block: every word of it is a word, and there is a place for every record.
use mathlib.Core.Path.{◌≡◌, refl, ap, ◌∙◌}
use mathlib.Core.Bool.{Bool, true, false}
use mathlib.Core.List.Memᴰ
use mathlib.Core.List.{List, [], ◌∷◌, ◌++◌, flat_map, reverse, reverse-cons}
use mathlib.Core.Logic.{⊎_elim}
use mathlib.Core.Option.{some}
use Prim.Native.Nat.{ℕ, zero, suc, ◌+◌, ◌*◌, ◌<◌, ◌≤◌}
use native.Mathlib.Omega.{arith}
use lib.ListN.{length, length-append, length-map, length-reverse}
use borrow.Author.Tests.{eq-eqb}
use Rattle.words.specs.Word.{WORD}
use Rattle.limits.specs.Limits.{CLASS_FIELDS, BINDINGS, OBJECTS, FRAMES, NODES}
use Rattle.script.specs.declared.Section.TheVariants.{Interfaces as interfaces, Classes as classes, Nodes as nodes}
use Rattle.script.specs.Lists.{◌∈◌, sum_below}
use Rattle.script.specs.Syntax.{Slot, Class}
use Rattle.script.specs.Reading.{own_fields, field_at, class_at, program_of}
use Rattle.script.specs.Regular.{IsType, IsClass}
use Rattle.script.specs.Statements.{WithinLayout}
use Rattle.script.proofs.Lists.{length_run}
use Rattle.script.proofs.Declarations.{length_interfaces, length_classes, a_class_at, class_from}
use Rattle.machine.specs.declared.Value.{Value}
use Rattle.machine.specs.declared.Value.TheVariants.{Null as nil}
use Rattle.machine.specs.declared.Frame.{Frame}
use Rattle.machine.specs.declared.Frame.TheVariants.{Awaits as awaits, Casts as casts, Locks as locks}
use Rattle.machine.specs.Config.{Code, code_of, Object, Binding, Stores, Tree, running, returning, failed, join, Config}
use Rattle.machine.specs.Machine.{field_count, object, limits, lock_frames, frame_count}
use Rattle.machine.specs.declared.Want.{Want}
use Rattle.machine.specs.WellFormed.{ValueFits as FitsWant, fits_nil, fits_ref, fits_int, BindingsOk, no_bindings, a_binding, FieldsOk, no_fields, a_field, TypedObject, FramesOk, no_frames, a_node, a_cast, a_lock, TreeOk, running_ok, returning_ok, failed_ok, join_ok, lock_count, shut_at, WellFormed}
use Rattle.soundness.proofs.Stores.{object_below, fields_long}
use Rattle.block.specs.declared.Area.TheVariants.{Objects, Bindings, Positions, Frames}
use Rattle.block.specs.Layout.{VALUE, RUNNING, RETURNING, FAILED, JOIN, AWAITS, CASTS, LOCKS}
use Rattle.block.specs.Values.{value_words, Storable}
use Rattle.block.specs.Block.{shut_word, returned, object_words, binding_words, preorder, position_words, frames_of, frame_words, parts_of}
use Rattle.block.specs.Fits.{AllWords, Few, AllStorable, Fits}
use Rattle.block.proofs.Trees.{positions_threads, frames_join}
use Rattle.block.proofs.Fits.{no_words, cons_words, append_words, value_words_lem, filled_words, flatten_words, map_words, laid_words}

in_reverse : {A : Type 0} (xs : List A) (a : A) → a ∈ reverse xs → a ∈ xs
in_reverse [] a m = m
in_reverse (x ∷ xs) a m =
    ⊎_elim (λ (k : a ∈ reverse xs). Memᴰ.tail (in_reverse xs a k))
    (λ (k : a ∈ x ∷ []). ⊎_elim (λ (e : a ≡ x). Memᴰ.head e) (λ (n : a ∈ []). absurd (Memᴰ.not-nil n)) (Memᴰ.cases_cons k))
    (Memᴰ.append_cases (reverse xs) (rw (reverse-cons x xs) at m))

-- an object by its number, and the numbers of objects
object_in_lem : (xs : List Object) (x : Object) → x ∈ xs → (o : ℕ) × (object xs o ≡ some x)
object_in_lem [] x m = absurd (Memᴰ.not-nil m)
object_in_lem (y ∷ xs) x m = ⊎_elim (λ (e : x ≡ y). (0, rw e refl)) (λ (k : x ∈ xs). let r = object_in_lem xs x k in (suc r.0, r.1)) (Memᴰ.cases_cons m)

shut_below : (xs : List Object) (o : ℕ) → 1 ≤ shut_at xs o → o < length xs
shut_below [] o h = absurd (omega (arith, h))
shut_below (y ∷ xs) zero h = omega arith
shut_below (y ∷ xs) (suc o) h = omega (arith, shut_below xs o h)

shut_small : (b : Bool) → shut_word b < WORD
shut_small true = omega arith
shut_small false = omega arith

-- the frames of a tree are those of its list
pub frames_many : (t : Tree) → length (frames_of t) ≡ frame_count t
unfolding frames_of preorder flat_map
frames_many (running p e fs) = omega (arith, length-append (reverse fs) [], length-reverse fs)
frames_many (returning v fs) = omega (arith, length-append (reverse fs) [], length-reverse fs)
frames_many failed = refl
frames_many (join fs p e l r) =
    ap (λ (k : List Frame). length k) (frames_join fs p e l r)
    ∙ omega (arith, length-append (reverse fs) (frames_of l ++ frames_of r), length-append (frames_of l) (frames_of r), length-reverse fs, frames_many l, frames_many r)

alone : (fs : List Frame) (f : Frame) → f ∈ reverse fs ++ [] → f ∈ fs
alone fs f m = ⊎_elim (λ (k : f ∈ reverse fs). in_reverse fs f k) (λ (k : f ∈ []). absurd (Memᴰ.not-nil k)) (Memᴰ.append_cases (reverse fs) m)

position : (k p e : ℕ) (v : Value) (n : ℕ) → k ≤ 4 → p < WORD → e < WORD → Storable v → n ≤ FRAMES
    → Storable v × AllWords (k ∷ p ∷ e ∷ (value_words v ++ n ∷ []))
position k p e v n a b c d f = (
  d,
  cons_words k _ (omega arith)
      (cons_words p _ b (cons_words e _ c (append_words (value_words v) (n ∷ []) (value_words_lem v d) (cons_words n [] (omega arith) no_words)))),
)

module _ (s : Code) (types : (u : ℕ) → IsType s.program u → u < WORD) (most : s.size ≤ NODES) (st : Stores) (objects : length st.objects ≤ OBJECTS) (bindings : length st.bindings ≤ BINDINGS) where
  value_small : {v : Value} {w : Want} → FitsWant s st.objects v w → Storable v
  value_small (fits_nil m) = _
  value_small (fits_ref {o = o} {x = x} e m) = omega (arith, object_below st.objects o x e)
  value_small (fits_int r m) = r

  fields_small : {ds : List Slot} {l : List Value} → FieldsOk s st.objects ds l → (v : Value) → v ∈ l → Storable v
  fields_small no_fields v m = absurd (Memᴰ.not-nil m)
  fields_small (a_field {v = u} {l = l} h k) v m = ⊎_elim (λ (e : v ≡ u). rw e (value_small h)) (λ (n : v ∈ l). fields_small k v n) (Memᴰ.cases_cons m)

  bindings_small : {bs : List Binding} → BindingsOk s st.objects bs → length bs ≤ BINDINGS → (b : Binding) → b ∈ bs
      → Storable b.value × AllWords (binding_words b)
  bindings_small no_bindings few b m = absurd (Memᴰ.not-nil m)
  bindings_small (a_binding {b = c} {bs = bs} h ok) few b m =
      ⊎_elim
      (λ (e : b ≡ c).
      rw e (
        value_small h.value,
        cons_words c.name _ h.name
            (cons_words c.type _ (types c.type h.type)
            (append_words (value_words c.value) (c.link ∷ []) (value_words_lem c.value (value_small h.value))
            (cons_words c.link [] (omega (arith, h.link)) no_words))),
      ))
      (λ (k : b ∈ bs). bindings_small ok (omega (arith, few)) b k)
      (Memᴰ.cases_cons m)

  -- the object of a lock frame is one that is shut
  frames_small : {w v : Want} {fs : List Frame} → FramesOk s st.bindings w fs v → ((o : ℕ) → 1 ≤ lock_frames o fs → o < WORD) → (f : Frame) → f ∈ fs → AllWords (frame_words f)
  frames_small no_frames shut f m = absurd (Memᴰ.not-nil m)
  frames_small (a_node {n = n} {e = e} {fs = fs} h l a ok) shut f m =
      ⊎_elim
      (λ (i : f ≡ awaits n e). rw i (cons_words AWAITS _ (omega arith) (cons_words n _ (omega (arith, h, most)) (cons_words e [] (omega (arith, l, bindings)) no_words))))
      (λ (k : f ∈ fs). frames_small ok shut f k)
      (Memᴰ.cases_cons m)
  frames_small (a_cast {n = n} {fs = fs} h a g ok) shut f m =
      ⊎_elim
      (λ (i : f ≡ casts n). rw i (cons_words CASTS _ (omega arith) (cons_words n _ (omega (arith, h, most)) (cons_words 0 [] (omega arith) no_words))))
      (λ (k : f ∈ fs). frames_small ok shut f k)
      (Memᴰ.cases_cons m)
  frames_small (a_lock {o = o} {fs = fs} ok) shut f m =
      ⊎_elim
      (λ (i : f ≡ locks o). rw i (cons_words LOCKS _ (omega arith) (cons_words o _ (shut o (rw (eq-eqb o o refl) (omega arith))) (cons_words 0 [] (omega arith) no_words))))
      (λ (k : f ∈ fs). frames_small ok (λ p h. shut p (omega (arith, h))) f k)
      (Memᴰ.cases_cons m)

  tree_frames : {w : Want} {t : Tree} → TreeOk s st w t → ((o : ℕ) → 1 ≤ lock_count o t → o < WORD) → (f : Frame) → f ∈ frames_of t → AllWords (frame_words f)
  unfolding frames_of preorder flat_map
  tree_frames (running_ok {fs = fs} h a ok) shut f m = frames_small ok shut f (alone fs f m)
  tree_frames (returning_ok {fs = fs} h ok) shut f m = frames_small ok shut f (alone fs f m)
  tree_frames failed_ok shut f m = absurd (Memᴰ.not-nil m)
  tree_frames (join_ok {a = a} {e = e} {fs = fs} {l = l} {r = r} h g ok x y) shut f m =
      ⊎_elim (λ (k : f ∈ reverse fs). frames_small ok (λ o i. shut o (omega (arith, i))) f (in_reverse fs f k))
      (λ (k : f ∈ frames_of l ++ frames_of r).
      ⊎_elim (λ (n : f ∈ frames_of l). tree_frames x (λ o i. shut o (omega (arith, i))) f n)
      (λ (n : f ∈ frames_of r). tree_frames y (λ o i. shut o (omega (arith, i))) f n)
      (Memᴰ.append_cases (frames_of l) k))
      (Memᴰ.append_cases (reverse fs) (rw (frames_join fs a e l r) at m))

  tree_small : {w : Want} {t : Tree} → TreeOk s st w t → frame_count t ≤ FRAMES → (u : Tree) → u ∈ preorder t
      → Storable (returned u) × AllWords (position_words u)
  unfolding preorder
  tree_small (running_ok {a = a} {e = e} {fs = fs} h at ok) few u m =
      ⊎_elim (λ (i : u ≡ running a e fs). rw i (position RUNNING a e nil (length fs) (omega arith) (omega (arith, at.node, most)) (omega (arith, h, bindings)) _ few))
      (λ (k : u ∈ []). absurd (Memᴰ.not-nil k))
      (Memᴰ.cases_cons m)
  tree_small (returning_ok {x = x} {fs = fs} h ok) few u m =
      ⊎_elim (λ (i : u ≡ returning x fs). rw i (position RETURNING 0 0 x (length fs) (omega arith) (omega arith) (omega arith) (value_small h) few))
      (λ (k : u ∈ []). absurd (Memᴰ.not-nil k))
      (Memᴰ.cases_cons m)
  tree_small failed_ok few u m =
      ⊎_elim (λ (i : u ≡ failed). rw i (position FAILED 0 0 nil 0 (omega arith) (omega arith) (omega arith) _ (omega arith)))
      (λ (k : u ∈ []). absurd (Memᴰ.not-nil k))
      (Memᴰ.cases_cons m)
  tree_small (join_ok {a = a} {e = e} {fs = fs} {l = l} {r = r} h at ok x y) few u m =
      ⊎_elim
      (λ (i : u ≡ join fs a e l r). rw i (position JOIN a e nil (length fs) (omega arith) (omega (arith, at.node, most)) (omega (arith, h, bindings)) _ (omega (arith, few))))
      (λ (k : u ∈ preorder l ++ preorder r).
      ⊎_elim (λ (n : u ∈ preorder l). tree_small x (omega (arith, few)) u n)
      (λ (n : u ∈ preorder r). tree_small y (omega (arith, few)) u n)
      (Memᴰ.append_cases (preorder l) k))
      (Memᴰ.cases_cons m)

module _ (s : List ℕ) (w : WithinLayout s) where
  types_small : (u : ℕ) → IsType (program_of s) u → u < WORD
  types_small u h = omega (arith, h, length_interfaces s, length_classes s, w.counts_are.within interfaces, w.counts_are.within classes)

  -- question 8: "has each class at most 8 fields"
  few_fields : (u : ℕ) → IsClass (program_of s) u → field_count s u ≤ CLASS_FIELDS
  unfolding class_at
  few_fields u h =
      let c = a_class_at (program_of s) u h in
      let x = class_from s u c.0 c.1 in
      let e : length c.0.fields ≡ length (class_at s x.0).fields = ap (λ (d : Class). length d.fields) x.3 in
      rw c.1 (omega (arith, e, length_run (field_at s) (sum_below (own_fields s) x.0) (own_fields s x.0), w.names_are.1.0 x.0 x.1))

  pub well_fits : {t : ℕ} {c : Config} → WellFormed (code_of s) limits t c → Fits (field_count s) c
  well_fits {t} {c} h =
      record {
        few = few;
        own_fields_lem = λ o m. fields_long (ok o m).fields;
        few_fields = λ o m. omega (arith, fields_long (ok o m).fields, few_fields o.class (ok o m).class);
        values = values;
        words =
            laid_words (parts_of c) few
            (λ o m.
            cons_words o.class _ (types_small o.class (omega (arith, (ok o m).class.last)))
            (cons_words (shut_word o.shut) _ (shut_small o.shut)
            (filled_words (VALUE * CLASS_FIELDS) _ (flatten_words _ (map_words value_words o.fields (λ v k. value_words_lem v (values Objects o m v k)))))))
            (λ b m. (bound b m).1)
            (λ u m. (position_of u m).1)
            (tree_frames (code_of s) types_small most c.stores objects h.within.bindings h.formed.tree (λ o i. omega (arith, objects, shut_below c.stores.objects o (omega (arith, i, h.formed.distinct o)))));
      }
    where
      most : (code_of s).size ≤ NODES
      most = w.counts_are.within nodes

      objects : length c.stores.objects ≤ OBJECTS
      objects = h.within.objects

      ok : (o : Object) → o ∈ c.stores.objects → TypedObject (code_of s) c.stores.objects o
      ok o m = let i = object_in_lem c.stores.objects o m in h.formed.stores.heap i.0 o i.1

      bound : (b : Binding) → b ∈ reverse c.stores.bindings → Storable b.value × AllWords (binding_words b)
      bound b m =
          bindings_small (code_of s) types_small most c.stores objects h.within.bindings h.formed.stores.bindings h.within.bindings b
          (in_reverse c.stores.bindings b m)

      position_of : (u : Tree) → u ∈ preorder c.tree → Storable (returned u) × AllWords (position_words u)
      position_of = tree_small (code_of s) types_small most c.stores objects h.within.bindings h.formed.tree h.within.frames

      values : AllStorable (parts_of c)
      values Objects = λ o m. fields_small (code_of s) types_small most c.stores objects h.within.bindings (ok o m).fields
      values Bindings = λ b m. (bound b m).0
      values Positions = λ u m. (position_of u m).0
      values Frames = _

      few : Few (parts_of c)
      few Objects = omega (arith, length-map c.stores.objects object_words, objects)
      few Bindings = omega (arith, length-map (reverse c.stores.bindings) binding_words, length-reverse c.stores.bindings, h.within.bindings)
      few Positions = omega (arith, length-map (preorder c.tree) position_words, positions_threads c.tree, h.within.threads)
      few Frames = omega (arith, length-map (frames_of c.tree) frame_words, frames_many c.tree, h.within.frames)
