-- A move of one thread.
use Prim.Native.Nat.{ℕ, zero, suc, ◌+◌, ◌≤◌, ◌<◌}
use native.Mathlib.Omega.{arith}
use mathlib.Core.Path.{◌≡◌, refl, ◌∙◌, ap}
use mathlib.Core.Bool.{Bool, true, false}
use mathlib.Core.List.{List, [], ◌∷◌, map}
use mathlib.Core.Option.{Option, some}
use lib.ListN.{length}
use lib.IntN.{ℤ, ◌+ℤ◌}
use borrow.Author.Tests.{eq-eqb}
use Rattle.words.specs.Integer.{range_test}
use Rattle.words.proofs.Integers.{range_exactly}
use Rattle.script.specs.Lists.{◌∈◌}
use Rattle.script.specs.Syntax.{Point, Node, n_null, n_var, n_select, n_update, n_call, n_bind, n_new, n_cast, n_fork, n_lock, n_constant, n_add, build, parts, Signature, an_int, int_of, declaration_at}
use Rattle.script.specs.Regular.{IsClass}
use Rattle.script.proofs.Declarations.{is_class, declared_int}
use Rattle.script.proofs.Reading.{first, second, third}
use Rattle.std.specs.declared.result.Result.TheVariants.{Ok}
use Rattle.typing.specs.Members.{type_in, fields_of}
use Rattle.typing.specs.Published.{WfType, Sub, FieldIn, MsigIn, BD-INFER-VAR, BD-INFER-CALL, BD-INFER-CAST, BD-INFER-SELECT, BD-INFER-UPDATE, BD-INFER-NEW, BD-INFER-INT, BD-INFER-ADD}
use Rattle.typing.proofs.Types.{type_wf}
use Rattle.typing.proofs.Environments.{type_in_lem}
use Rattle.machine.specs.declared.Store.{Store}
use Rattle.machine.specs.declared.Value.{Value}
use Rattle.machine.specs.declared.Value.TheVariants.{Null as nil, Ref as ref, Int as int}
use Rattle.machine.specs.declared.Frame.{Frame}
use Rattle.machine.specs.declared.Frame.TheVariants.{Awaits as awaits, Casts as casts, Locks as locks}
use Rattle.machine.specs.Config.{Code, Object, Binding, Stores, Tree, running, returning, failed}
use Rattle.machine.specs.Machine.{scope, slot, context, find, ValueOf, object, set_shut, set_fields, set_field, initials, one_if, lock_frames, Places, Outcome, still, full, moved, give, descend, make, spawn, enter, shut_and_enter, on_value, on_target, lock_object, extend, select_object, update_object, call_method, call_object, give_sum, add_bound, run_node, wake, resume}
use Rattle.machine.specs.declared.Want.{Want}
use Rattle.machine.specs.declared.Want.TheVariants.{Any as any, Upto as upto}
use Rattle.machine.specs.WellFormed.{Meets, meets_type, ValueFits, fits_nil, fits_ref, fits_int, Gives, gives_type, NodeGives, a_binding, FieldsOk, StoresOk, Awaits, a_let, a_write, a_call, FramesOk, no_frames, a_node, a_cast, a_lock, TreeOk, running_ok, returning_ok, failed_ok, join_ok, lock_count, failures, shut_at}
use Rattle.machine.specs.Accepted.{LaterPart, AcceptedCode}
use Rattle.machine.specs.Ends.{Waits, waits}
use Rattle.machine.proofs.Types.{null_unit, null_meets, check_gives, gives_meets, field_no_int, method_no_int, null_given, let_parts, lock_parts, fork_parts, below_class, below_method, infer_computes, infer_wf, infer_gives, field_declared, class_below, Defined, defined}
use Rattle.soundness.proofs.Values.{fits_meets, no_number, a_number}
use Rattle.soundness.proofs.Stores.{keeps_append, keeps_shut, keeps_fields, scope_newest, scope_empty, shut_at_fields, fit_field, set_field_lem, initials_ok, fit_binding, object_last, shut_at_new, shut_at_le, shut_at_object, opens, shuts}
use Rattle.soundness.proofs.Grow.{Grows, grows_same, grows_objects, grows_binding, grows_call, heap_grows, heap_append, heap_shut, heap_fields, fields_grow, fits_grows, bindings_grow, frames_grow}

-- What a move of a part of the tree, from `t` to `u`, leaves well formed, and what it does to the locks.
pub record Fine (s : Code) (w : Want) (st : Stores) (t : Tree) (su : Stores) (u : Tree) : Type 0 where
  pub grows : Grows st su
  pub stores : StoresOk s su
  pub tree : TreeOk s su w u
  pub fewer : (o : ℕ) → lock_count o u + shut_at st.objects o ≤ lock_count o t + shut_at su.objects o
  pub whole : failures u ≡ 0 → (failures t ≡ 0) × ((o : ℕ) → shut_at su.objects o + lock_count o t ≡ shut_at st.objects o + lock_count o u)

-- What holds of an outcome: Q where there is no move.
pub data Judged (s : Code) (w : Want) (st : Stores) (t : Tree) (Q : Type 0) : Outcome → Type 0 where
  no_move : Q → Judged s w st t Q still
  no_room : {k : Store} → Judged s w st t Q (full k)
  a_move : {su : Stores} {u : Tree} → Fine s w st t su u → Judged s w st t Q (moved su u)

abbrev pub Waiting : Code → Stores → List Frame → Tree → Type 0
Waiting s st above t = (o : ℕ) × Waits s st above o t

module _ {s : Code} {w : Want} {st : Stores} (ok : StoresOk s st) where
  -- the stores stay, and so do the lock frames
  pub kept : (t u : Tree) → TreeOk s st w u → failures t ≡ 0 → ((o : ℕ) → lock_count o u ≡ lock_count o t) → Fine s w st t st u
  kept t u k z e =
      record {
        grows = grows_same st;
        stores = ok;
        tree = k;
        fewer = λ o. omega (arith, e o);
        whole = λ f. (z, λ o. omega (arith, e o));
      }

  -- the thread fails
  pub fails : (t : Tree) → Fine s w st t st failed
  fails t =
      record {
        grows = grows_same st;
        stores = ok;
        tree = failed_ok;
        fewer = λ o. omega arith;
        whole = λ f. absurd (omega arith);
      }

  -- a target, whose type is not Int: with null the thread fails, and an object is of a class below the variable's type
  target_good : {t : Tree} {Q : Type 0} {start : ℕ} → AcceptedCode s start → (e x c : ℕ) (go : ℕ → Option Object → Outcome)
      → (declaration_at s.program c ≡ an_int → ⊥) → type_in (context st.bindings e) x ≡ some c
      → ((o : ℕ) (y : Object) → ValueOf st e x (ref o) → object st.objects o ≡ some y → Sub s.program y.class c → Judged s w st t Q (go o (some y)))
      → Judged s w st t Q (on_target st go (find (scope st.bindings e) x))
  target_good {t} {Q} acc e x c go n h there = let f = fit_binding e x c ok.bindings h in rw f.there (on f.binding f.there f.binding.value refl f.fits)
    where
      on : (b : Binding) → find (scope st.bindings e) x ≡ some b → (v : Value) → b.value ≡ v → ValueFits s st.objects v (upto c) → Judged s w st t Q (on_value st go v)
      on b k nil i f = a_move (fails t)
      on b k (ref o) i (fits_ref {x = y} l (meets_type m)) = rw l (there o y (record { binding = b; there = k; value = i }) l m)
      on b k (int z) i f = absurd (no_number acc n f)

  module _ {start : ℕ} (acc : AcceptedCode s start) (room : Places) (above fs : List Frame) (p : Point) (v : Want) (r : FramesOk s st.bindings w fs v) (e : ℕ) (le : e ≤ length st.bindings) where
    give_good : {Q : Type 0} (x t : ℕ) → type_in (context st.bindings e) x ≡ some t → Meets s t v
        → Judged s w st (running p e fs) Q (give st fs (find (scope st.bindings e) x))
    give_good x t h m =
        let f = fit_binding e x t ok.bindings h in
        rw f.there (a_move (kept _ _ (returning_ok (fits_meets acc f.fits m) r) refl (λ o. refl)))

    -- the two variables of a sum hold numbers, and their sum is in the range, or the thread fails
    sum_good : {Q : Type 0} (i j : ℤ) → Meets s (int_of s.program) v → (q : Bool) → range_test (i +ℤ j) ≡ q
        → Judged s w st (running p e fs) Q (give_sum st fs (i +ℤ j) q)
    sum_good i j m true h = a_move (kept _ _ (returning_ok (fits_int ((range_exactly (i +ℤ j)).0 h) m) r) refl (λ o. refl))
    sum_good i j m false h = a_move (fails _)

    add_good : {Q : Type 0} (x y t : ℕ) → type_in (context st.bindings e) x ≡ some t → type_in (context st.bindings e) y ≡ some t
        → declaration_at s.program t ≡ an_int → Meets s t v
        → Judged s w st (running p e fs) Q (add_bound st fs (find (scope st.bindings e) x) (find (scope st.bindings e) y))
    add_good x y t h k d m =
        let f = fit_binding e x t ok.bindings h in
        let g = fit_binding e y t ok.bindings k in
        let i = a_number acc ok d f.fits in
        let j = a_number acc ok d g.fits in
        rw (f.there, g.there, i.1, j.1) (sum_good i.0 j.0 (rw (declared_int s.program t d) at m) (range_test (i.0 +ℤ j.0)) refl)

    -- a part is run first
    descend_good : {Q : Type 0} (a : Point) {u : Want} (f : Frame) → NodeGives s (context st.bindings e) a u → FramesOk s st.bindings w (f ∷ fs) u → ((o : ℕ) → lock_frames o (f ∷ fs) ≡ lock_frames o fs)
        → (k : ℕ) → Judged s w st (running p e fs) Q (descend st fs e f a k)
    descend_good a f g h i zero = no_room
    descend_good a f g h i (suc k) = a_move (kept _ _ (running_ok le g h) refl i)

    spawn_good : {Q : Type 0} (a b c : Point) → NodeGives s (context st.bindings e) a any → NodeGives s (context st.bindings e) b any
        → NodeGives s (context st.bindings e) c v → (k : ℕ) → Judged s w st (running p e fs) Q (spawn st fs e a b c k)
    spawn_good a b c i j g zero = no_room
    spawn_good a b c i j g (suc k) =
        a_move
        (kept _ _ (join_ok le g r (running_ok le i no_frames) (running_ok le j no_frames)) refl (λ o. omega arith))

    make_good : {Q : Type 0} (c : ℕ) → IsClass s.program c → Meets s c v → (k : ℕ) → Judged s w st (running p e fs) Q (make s st fs c k)
    make_good c i m zero = no_room
    make_good c i m (suc k) =
        let y : Object = record { class = c; shut = false; fields = initials s.program (fields_of s.program c) } in
        let q = keeps_append st.objects (y ∷ []) in
        let g = grows_objects st _ q in
        a_move
        (record {
          grows = g;
          stores =
              record {
                bindings = bindings_grow q ok.bindings;
                heap = heap_append st.objects y (heap_grows st.objects q ok.heap) (record { class = i; fields = initials_ok (fields_of s.program c) });
              };
          tree = returning_ok (fits_ref (object_last st.objects _) m) (frames_grow g r);
          fewer = λ o. omega (arith, shut_at_new st.objects c (initials s.program (fields_of s.program c)) o);
          whole = λ f. (refl, λ o. omega (arith, shut_at_new st.objects c (initials s.program (fields_of s.program c)) o));
        })

    lock_enters : (x o : ℕ) (a : Point) → s.view p ≡ n_lock x a → ValueOf st e x (ref o) → shut_at st.objects o ≡ 1
        → NodeGives s (context st.bindings e) a v → (n : ℕ) → lock_frames o fs + lock_frames o above ≡ n
        → Judged s w st (running p e fs) (Waiting s st above (running p e fs)) (enter st fs a e n)
    lock_enters x o a i k z g zero q = no_move (o, waits i k z q)
    lock_enters x o a i k z g (suc n) q = a_move (kept _ _ (running_ok le g r) refl (λ o. refl))

    lock_takes : {Q : Type 0} (o : ℕ) (a : Point) (y : Object) → object st.objects o ≡ some y → y.shut ≡ false → NodeGives s (context st.bindings e) a v
        → (k : ℕ) → Judged s w st (running p e fs) Q (shut_and_enter st fs a e o k)
    lock_takes o a y l z i zero = no_room
    lock_takes o a y l z i (suc k) =
        let g = grows_objects st (set_shut true st.objects o) (keeps_shut true st.objects o) in
        a_move
        (record {
          grows = g;
          stores = record { bindings = bindings_grow g.objects ok.bindings; heap = heap_shut true st.objects o (heap_grows st.objects g.objects ok.heap) };
          tree = running_ok le i (a_lock {o = o} r);
          fewer = λ q. omega (arith, shuts st.objects o q y l z);
          whole = λ f. (refl, λ q. omega (arith, shuts st.objects o q y l z));
        })

    lock_object_lem : (x o : ℕ) (a : Point) (y : Object) → s.view p ≡ n_lock x a → ValueOf st e x (ref o) → object st.objects o ≡ some y
        → NodeGives s (context st.bindings e) a v → (q : Bool) → y.shut ≡ q
        → Judged s w st (running p e fs) (Waiting s st above (running p e fs)) (lock_object st above fs a e room.frames o (some (record { class = y.class; shut = q; fields = y.fields })))
    lock_object_lem x o a y i k l g true z = lock_enters x o a i k (shut_at_object st.objects o y l ∙ ap one_if z) g (lock_frames o fs + lock_frames o above) refl
    lock_object_lem x o a y i k l g false z = lock_takes o a y l z g room.frames

    select_object_lem : {Q : Type 0} (f c u o : ℕ) (y : Object) → FieldIn s.program c f u → Meets s u v → object st.objects o ≡ some y → Sub s.program y.class c
        → Judged s w st (running p e fs) Q (select_object s st fs f (some y))
    select_object_lem f c u o y d m l b =
        let q = field_declared acc d in
        let i : y.class ≡ c = below_class acc q.0 b in
        let j = fit_field (ok.heap o y l).fields f u (ap (λ (n : ℕ). type_in (fields_of s.program n) f) i ∙ q.1) in
        rw j.there (a_move (kept _ _ (returning_ok (fits_meets acc j.fits m) r) refl (λ o. refl)))

    pub run_good : (n : Node) → p < s.size → s.view p ≡ n → ((q : Point) → q ∈ parts n → LaterPart s p q) → Gives s (context st.bindings e) (build p s.expr n) v
        → Judged s w st (running p e fs) (Waiting s st above (running p e fs)) (run_node s room st above fs e p n)
    run_good n_null q i y g = a_move (kept _ _ (returning_ok (fits_nil (null_given g)) r) refl (λ o. refl))
    run_good (n_var x) q i y (gives_type (BD-INFER-VAR z h) m) = give_good x _ (type_in_lem h) m
    run_good (n_select x f) q i y (gives_type (BD-INFER-SELECT (BD-INFER-VAR z h) d w) m) = target_good acc e x _ (λ o. select_object s st fs f) (field_no_int d) (type_in_lem h) (λ o y k l b. select_object_lem f _ _ o y d m l b)
    run_good (n_update x f a) q i y (gives_type (BD-INFER-UPDATE {t = t} (BD-INFER-VAR z h) c d o) m) =
        descend_good a (awaits p e) (record { node = (y a first).there; gives = check_gives c }) (a_node {t = t} q le (rw i (a_write h d m)) r) (λ o. refl) room.frames
    run_good (n_call x n a) q i y (gives_type (BD-INFER-CALL {t₂ = t} (BD-INFER-VAR z h) c d o) m) =
        descend_good a (awaits p e) (record { node = (y a first).there; gives = check_gives c }) (a_node {t = t} q le (rw i (a_call h d m)) r) (λ o. refl) room.frames
    run_good (n_bind x a b) q i y g =
        let k = let_parts g in
        descend_good a (awaits p e) (record { node = (y a first).there; gives = infer_gives acc k.1 }) (a_node {t = k.0} q le (rw i (a_let k.1 k.2)) r) (λ o. refl) room.frames
    run_good (n_new c) q i y (gives_type (BD-INFER-NEW {c = k} z h) m) = make_good c (is_class s.program c k h) m room.objects
    run_good (n_cast t a) q i y (gives_type (BD-INFER-CAST c) m) =
        descend_good a (casts p) (record { node = (y a first).there; gives = check_gives c }) (a_cast q i m r) (λ o. refl) room.frames
    run_good (n_fork a b c) q i y g =
        let k = fork_parts g in
        spawn_good a b c (record { node = (y a first).there; gives = k.0 }) (record { node = (y b second).there; gives = k.1 }) (record { node = (y c third).there; gives = k.2 }) room.threads
    run_good (n_lock x a) q i y g =
        let k = lock_parts g in
        target_good acc e x _ (lock_object st above fs a e room.frames) k.3 (type_in_lem k.1) (λ o z j l b. lock_object_lem x o a z i j l (record { node = (y a first).there; gives = k.2 }) z.shut refl)
    run_good (n_constant z) q i y (gives_type (BD-INFER-INT {t = t} c d) m) =
        a_move (kept _ _ (returning_ok (fits_int (acc.constants p z i) (rw (declared_int s.program t d) at m)) r) refl (λ o. refl))
    run_good (n_add x y) q i l (gives_type (BD-INFER-ADD {t = t} (BD-INFER-VAR c h) (BD-INFER-VAR z k) d) m) = add_good x y t (type_in_lem h) (type_in_lem k) d m

  module _ {start : ℕ} (acc : AcceptedCode s start) (room : Places) (x : Value) (i : Point) where
    bind_good : {Q : Type 0} (n e t : ℕ) (b : Point) (fs : List Frame) (v : Want) → n < 65536 → b < s.size → e ≤ length st.bindings → WfType s.program t
        → Gives s (record { name = n; type = t } ∷ context st.bindings e) (s.expr b) v → FramesOk s st.bindings w fs v
        → ValueFits s st.objects x (upto t) → (k : ℕ)
        → Judged s w st (returning x (awaits i e ∷ fs)) Q (extend st fs n x b e (Ok t) k)
    bind_good n e t b fs v a y le d q r f zero = no_room
    bind_good n e t b fs v a y le d q r f (suc k) =
        let z : Binding = record { name = n; type = t; value = x; link = e } in
        let g = grows_binding st z in
        let c : context (z ∷ st.bindings) (suc (length st.bindings)) ≡ record { name = n; type = t } ∷ context st.bindings e =
        ap (map slot) (scope_newest z st.bindings) in
        a_move
        (record {
          grows = g;
          stores =
              record {
                bindings = a_binding (record { name = a; type = (type_wf s.program t).1 d; link = le; value = f }) ok.bindings;
                heap = ok.heap;
              };
          tree = running_ok {e = suc (length st.bindings)} (omega arith) (record { node = y; gives = rw (← c) at q }) (frames_grow g r);
          fewer = λ o. omega arith;
          whole = λ j. (refl, λ o. omega arith);
        })

    update_object_lem : (e : ℕ) (fs : List Frame) (v : Want) (o : ℕ) (y : Object) → Meets s 0 v → FramesOk s st.bindings w fs v → object st.objects o ≡ some y
        → (l : List Value) → FieldsOk s st.objects (fields_of s.program y.class) l
        → Fine s w st (returning x (awaits i e ∷ fs)) (record { objects = set_fields l st.objects o; bindings = st.bindings }) (returning nil fs)
    update_object_lem e fs v o y m r h l q =
        let g = grows_objects st (set_fields l st.objects o) (keeps_fields l st.objects o) in
        record {
          grows = g;
          stores =
              record {
                bindings = bindings_grow g.objects ok.bindings;
                heap =
                    heap_fields l st.objects o (heap_grows st.objects g.objects ok.heap)
                    (λ z j. let k : y ≡ z = cc in fields_grow g.objects (rw k at q));
              };
          tree = returning_ok (fits_nil (null_meets acc (null_unit s.program) m)) r;
          fewer = λ p. omega (arith, shut_at_fields l st.objects o p);
          whole = λ z. (refl, λ p. omega (arith, shut_at_fields l st.objects o p));
        }

    update_there : {Q : Type 0} (f e c u : ℕ) (fs : List Frame) (v : Want) → FieldIn s.program c f u → Meets s 0 v → FramesOk s st.bindings w fs v → ValueFits s st.objects x (upto u)
        → (o : ℕ) (y : Object) → object st.objects o ≡ some y → Sub s.program y.class c → Judged s w st (returning x (awaits i e ∷ fs)) Q (update_object s st fs f x o (some y))
    update_there f e c u fs v d m r j o y l b =
        let h = field_declared acc d in
        let z : y.class ≡ c = below_class acc h.0 b in
        let q = set_field_lem x (ok.heap o y l).fields f u (ap (λ (n : ℕ). type_in (fields_of s.program n) f) z ∙ h.1) j in
        a_move (update_object_lem e fs v o y m r l (set_field x (fields_of s.program y.class) y.fields f) q)

    call_method_lem : {Q : Type 0} (e : ℕ) (fs : List Frame) (v : Want) (o : ℕ) (y : Object) {g : Signature} → FramesOk s st.bindings w fs v → object st.objects o ≡ some y
        → (b : Defined s y.class g) → Meets s b.method.signature.result v → ValueFits s st.objects x (upto b.method.signature.param) → (k : ℕ)
        → Judged s w st (returning x (awaits i e ∷ fs)) Q (call_method st fs x o y.class (some b.method) k)
    call_method_lem e fs v o y r h b k f zero = no_room
    call_method_lem e fs v o y r h b k f (suc zero) = no_room
    call_method_lem e fs v o y r h b k f (suc (suc j)) =
        let t = b.method.signature.param in
        let self : Binding = record { name = 0; type = y.class; value = ref o; link = 0 } in
        let arg : Binding = record { name = 1; type = t; value = x; link = suc (length st.bindings) } in
        let gr = grows_call st self arg in
        let c : context (arg ∷ self ∷ st.bindings) (suc (suc (length st.bindings))) ≡ record { name = 1; type = t } ∷ record { name = 0; type = y.class } ∷ [] =
        ap (map slot) (scope_newest arg (self ∷ st.bindings) ∙ ap (λ (l : List Binding). arg ∷ l) (scope_newest self st.bindings ∙ ap (λ (l : List Binding). self ∷ l) (scope_empty st.bindings))) in
        let i = (ok.heap o y h).class in
        a_move
        (record {
          grows = gr;
          stores =
              record {
                bindings =
                    a_binding {b = arg} {bs = self ∷ st.bindings} (record { name = omega arith; type = b.param; link = omega arith; value = f })
                    (a_binding {b = self} {bs = st.bindings} (record { name = omega arith; type = omega (arith, i.last); link = omega arith; value = fits_ref h (meets_type (class_below acc i)) }) ok.bindings);
                heap = ok.heap;
              };
          tree =
              running_ok {e = suc (suc (length st.bindings))} (omega arith)
              (record { node = b.node; gives = rw (← b.body, ← c) at (gives_meets acc (check_gives b.checked) k) })
              (frames_grow gr r);
          fewer = λ o. omega arith;
          whole = λ z. (refl, λ o. omega arith);
        })

    call_there : {Q : Type 0} (m e c t u : ℕ) (fs : List Frame) (v : Want) → MsigIn s.program c (record { name = m; param = t; result = u }) → Meets s u v
        → FramesOk s st.bindings w fs v → ValueFits s st.objects x (upto t) → (o : ℕ) (y : Object) → object st.objects o ≡ some y → Sub s.program y.class c
        → Judged s w st (returning x (awaits i e ∷ fs)) Q (call_object s st fs m x room.bindings o (some y))
    call_there m e c t u fs v h k r f o y l b =
        let q = defined acc (ok.heap o y l).class (below_method acc b h) in
        rw q.there (call_method_lem e fs v o y r l q (rw q.same k) (rw q.same f) room.bindings)

    wake_good : {Q : Type 0} (e t : ℕ) (fs : List Frame) (v : Want) → e ≤ length st.bindings → (n : Node) → s.view i ≡ n → ((q : Point) → q ∈ parts n → LaterPart s i q) → Awaits s (context st.bindings e) n t v
        → FramesOk s st.bindings w fs v → ValueFits s st.objects x (upto t) → Judged s w st (returning x (awaits i e ∷ fs)) Q (wake s room st x fs e n)
    wake_good e t fs v le (n_bind y a b) j k (a_let p q) r f =
        rw (infer_computes acc p) (bind_good y e t b fs v (acc.words i y a b j) (k b second).there le (infer_wf acc p) q r f room.bindings)
    wake_good e t fs v le (n_update y f a) j k (a_write {c = c} h d m) r l =
        target_good acc e y c (update_object s st fs f x) (field_no_int d) (type_in_lem h) (λ o z g i b. update_there f e c t fs v d m r l o z i b)
    wake_good e t fs v le (n_call y n a) j k (a_call {c = c} {u = u} h d m) r l =
        target_good acc e y c (call_object s st fs n x room.bindings) (method_no_int d) (type_in_lem h) (λ o z g i b. call_there n e c t u fs v d m r l o z i b)
    wake_good {Q = Q} e t fs v le n_null j k x6 r f = elim x6 [ ]
    wake_good {Q = Q} e t fs v le (n_var _) j k x8 r f = elim x8 [ ]
    wake_good {Q = Q} e t fs v le (n_select _ _) j k x10 r f = elim x10 [ ]
    wake_good {Q = Q} e t fs v le (n_new _) j k x10 r f = elim x10 [ ]
    wake_good {Q = Q} e t fs v le (n_cast _ _) j k x12 r f = elim x12 [ ]
    wake_good {Q = Q} e t fs v le (n_fork _ _ _) j k x14 r f = elim x14 [ ]
    wake_good {Q = Q} e t fs v le (n_lock _ _) j k x14 r f = elim x14 [ ]
    wake_good {Q = Q} e t fs v le (n_constant _) j k x14 r f = elim x14 [ ]
    wake_good {Q = Q} e t fs v le (n_add _ _) j k x16 r f = elim x16 [ ]

  module _ {start : ℕ} (acc : AcceptedCode s start) (room : Places) (x : Value) where
    pub resume_good : (fs : List Frame) (v : Want) → FramesOk s st.bindings w fs v → ValueFits s st.objects x v
        → ((o : ℕ) → lock_frames o fs ≤ shut_at st.objects o) → Judged s w st (returning x fs) (fs ≡ []) (resume s room st x fs)
    resume_good [] v r f k = no_move refl
    resume_good (awaits n e ∷ fs) v (a_node {t = t} {v = v'} i le h r) f k = wake_good acc room x n e t fs v' le (s.view n) refl (acc.in_order n i) h r f
    resume_good (casts n ∷ fs) v (a_cast i h m r) f k = a_move (kept _ _ (returning_ok (fits_meets acc f m) r) refl (λ o. refl))
    resume_good (locks o ∷ fs) v (a_lock r) f k =
        let c : shut_at st.objects o ≡ 1 = omega (arith, k o, shut_at_le st.objects o, ap one_if (eq-eqb o o refl)) in
        let g = grows_objects st (set_shut false st.objects o) (keeps_shut false st.objects o) in
        a_move
        (record {
          grows = g;
          stores = record { bindings = bindings_grow g.objects ok.bindings; heap = heap_shut false st.objects o (heap_grows st.objects g.objects ok.heap) };
          tree = returning_ok (fits_grows g.objects f) r;
          fewer = λ q. omega (arith, opens st.objects o q c);
          whole = λ z. (refl, λ q. omega (arith, opens st.objects o q c));
        })
