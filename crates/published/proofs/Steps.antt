-- Each move is a published step or leaves the reading as it was.
use Prim.Native.Nat.{ℕ, zero, suc, ◌+◌, ◌≤◌}
use native.Mathlib.Omega.{arith}
use mathlib.Core.Path.{◌≡◌, refl, sym, ◌∙◌, ap, subst}
use mathlib.Core.Bool.{Bool, true, false, cond}
use mathlib.Core.List.{List, [], ◌∷◌, ◌++◌}
use mathlib.Core.Option.{Option, some}
use lib.Dec.{eqb}
use lib.ListN.{length}
use lib.IntN.{ℤ, ◌+ℤ◌}
use lib.Signed.{mag}
use borrow.Author.Tests.{eq-eqb, ltb-true, ltb-false}
use Rattle.words.specs.Integer.{HALF, range_test}
use Rattle.script.specs.Syntax.{Point, Node, n_null, n_var, n_select, n_update, n_call, n_bind, n_new, n_cast, n_fork, n_lock, n_constant, n_add, build, point_of, var, select, new, fork, lock, add, Program}
use Rattle.std.specs.declared.result.Result.TheVariants.{Ok}
use Rattle.typing.specs.Members.{type_in, fields_of}
use Rattle.typing.specs.Published.{Sub, FieldIn, MsigIn, BD-INFER-VAR, BD-INFER-SELECT, BD-INFER-ADD}
use Rattle.typing.proofs.Environments.{type_in_lem}
use Rattle.machine.specs.declared.Store.{Store}
use Rattle.machine.specs.declared.Value.{Value}
use Rattle.machine.specs.declared.Value.TheVariants.{Null as nil, Ref as ref, Int as int}
use Rattle.machine.specs.declared.Frame.{Frame}
use Rattle.machine.specs.declared.Frame.TheVariants.{Awaits as awaits, Casts as casts, Locks as locks}
use Rattle.machine.specs.Config.{Code, Object, Binding, Stores, Tree, running, returning, failed, join, Config}
use Rattle.machine.specs.Machine.{scope, context, find, object, set_fields, set_field, initials, one_if, lock_frames, Places, Outcome, still, full, moved, give, descend, make, spawn, with_shut, enter, shut_and_enter, on_value, on_target, lock_object, extend, select_object, give_sum, add_values, add_bound, update_object, call_bindings, call_method, call_object, run_node, wake, resume, Phase, finished, broken, busy, phase, fold, in_left_tree, in_right_tree, Path, here, left, right, move_at, spare, move, held, part}
use Rattle.machine.specs.declared.Want.{Want}
use Rattle.machine.specs.declared.Want.TheVariants.{Any as any, Upto as upto}
use Rattle.machine.specs.WellFormed.{meets_type, ValueFits, fits_ref, Gives, gives_type, StoresOk, Awaits, a_let, a_write, a_call, FramesOk, a_node, a_cast, TreeOk, running_ok, returning_ok, join_ok, lock_count, shut_at, WfConfig}
use Rattle.machine.specs.Accepted.{AcceptedCode}
use Rattle.published.specs.Steps.{fresh, PExpr, p_value, fill, PTree, p_thread, p_join, p_failed, World, remove, entry_value, DYN-EVAL-VAR, DYN-EVAL-LET, DYN-EVAL-CALL, DYN-EVAL-CAST, DYN-EVAL-SELECT, DYN-EVAL-UPDATE, DYN-EVAL-NEW, DYN-EVAL-LOCK, DYN-EVAL-LOCK-REENTRANT, DYN-EVAL-LOCK-RELEASE, DYN-EVAL-SPAWN, DYN-NPE-SELECT, DYN-NPE-UPDATE, DYN-NPE-CALL, DYN-NPE-LOCK, DYN-EVAL-ADD, DYN-EXCEPTION-ADD, Step, reduces, DYN-EVAL-CONTEXT, DYN-EVAL-SPAWN-CONTEXT, DYN-EXCEPTION-CONTEXT, DYN-EVAL-ASYNC-LEFT, DYN-EVAL-ASYNC-RIGHT, DYN-EVAL-ASYNC-JOIN, DYN-EXCEPTION-ASYNC-LEFT, DYN-EXCEPTION-ASYNC-RIGHT}
use Rattle.published.specs.ReadAs.{entries, names, hole, plug, world, said, read}
use Rattle.machine.specs.Silent.{quiet, quiet_in, SilentAt}
use Rattle.published.specs.Means.{Means, silently, publicly}
use Rattle.published.specs.Reach.{site}
use Rattle.published.specs.Traces.{Transition, published_step, silent_move}
use Rattle.machine.proofs.Types.{lock_parts, below_class, below_method, infer_computes, field_declared, Defined, defined}
use Rattle.soundness.proofs.Stores.{fit_binding, fit_field, shut_at_le, shut_at_object}
use Rattle.soundness.proofs.Grow.{Grows, grows_binding, grows_call}
use Rattle.soundness.proofs.Move.{Judged, a_move}
use Rattle.soundness.proofs.Trees.{move_good, is_broken}
use Rattle.soundness.proofs.Ends.{frames_append}
use Rattle.machine.proofs.Locks.{held_in, in_held}
use Rattle.soundness.proofs.Silent.{silent_at}
use Rattle.published.proofs.Names.{variable, entry_new, entry_count, let_reading, call_reading, entry_older, plug_grow, read_grow, said_grow}

-- a step inside frames
module _ (s : Code) (bs : List Binding) {W X : World} where
  plug_step : {L M : List ℕ} {a b : PExpr} (fs : List Frame) → Step s.program W (p_thread L a) X (p_thread M b) → Step s.program W (p_thread L (plug s bs fs a)) X (p_thread M (plug s bs fs b))
  plug_step [] h = h
  plug_step {L = L} {M = M} {a = a} {b = b} (f ∷ fs) h =
      plug_step {L = L} {M = M} {a = fill (hole s bs f) a} {b = fill (hole s bs f) b} fs (DYN-EVAL-CONTEXT (hole s bs f) refl h)

  plug_failed : {L : List ℕ} {a : PExpr} (fs : List Frame) → Step s.program W (p_thread L a) X p_failed → Step s.program W (p_thread L (plug s bs fs a)) X p_failed
  plug_failed [] h = h
  plug_failed {L = L} {a = a} (f ∷ fs) h = plug_failed {L = L} {a = fill (hole s bs f) a} fs (DYN-EXCEPTION-CONTEXT (hole s bs f) refl h)

plug_spawn : (s : Code) (bs : List Binding) {W : World} {L : List ℕ} {a b c d : PExpr} (fs : List Frame) → Step s.program W (p_thread L a) W (p_join (p_thread L b) (p_thread [] c) d)
    → Step s.program W (p_thread L (plug s bs fs a)) W (p_join (p_thread L b) (p_thread [] c) (plug s bs fs d))
plug_spawn s bs [] h = h
plug_spawn s bs {W = W} {L = L} {a = a} {b = b} {c = c} {d = d} (f ∷ fs) h =
    plug_spawn s bs {W = W} {L = L} {a = fill (hole s bs f) a} {b = b} {c = c} {d = fill (hole s bs f) d} fs (DYN-EVAL-SPAWN-CONTEXT (hole s bs f) refl h)

-- a step of a thread is made at its root
pub thread_join : {L : List ℕ} {a c : PExpr} {P Q : PTree} → p_thread L a ≡ p_join P Q c → ⊥
thread_join h = let z : ◌≡◌ {A = ℕ} 0 1 = cc in omega arith

pub site_thread : {p : Program} {W X : World} {L : List ℕ} {a : PExpr} {P T : PTree} → P ≡ p_thread L a → (h : Step p W P X T) → site h ≡ here
site_thread e (reduces h) = refl
site_thread e (DYN-EVAL-CONTEXT E c h) = refl
site_thread e (DYN-EVAL-SPAWN-CONTEXT E c h) = refl
site_thread e (DYN-EXCEPTION-CONTEXT E c h) = refl
site_thread e (DYN-EVAL-ASYNC-LEFT h) = absurd (thread_join (sym e))
site_thread e (DYN-EVAL-ASYNC-RIGHT h) = absurd (thread_join (sym e))
site_thread e DYN-EVAL-ASYNC-JOIN = refl
site_thread e DYN-EXCEPTION-ASYNC-LEFT = refl
site_thread e DYN-EXCEPTION-ASYNC-RIGHT = refl

-- a lock that is not held
remove_other : (o p n : ℕ) (L : List ℕ) (q : Bool) → eqb o p ≡ q → one_if q + n ≡ 0 → (n ≡ 0 → remove o L ≡ L) → cond q (remove o L) (p ∷ remove o L) ≡ p ∷ L
remove_other o p n L true h k r = absurd (omega arith)
remove_other o p n L false h k r = ap (λ (l : List ℕ). p ∷ l) (r (omega arith))

remove_held : (o : ℕ) (fs : List Frame) → lock_frames o fs ≡ 0 → remove o (held fs) ≡ held fs
remove_held o [] h = refl
remove_held o (awaits n e ∷ fs) h = remove_held o fs h
remove_held o (casts n ∷ fs) h = remove_held o fs h
remove_held o (locks p ∷ fs) h = remove_other o p (lock_frames o fs) (held fs) (eqb o p) refl h (remove_held o fs)

-- What a move is in the published reading.
pub data Exact (s : Code) (st : Stores) (above : List Frame) (t : Tree) : Outcome → Type 0 where
  no_change : Exact s st above t still
  no_place : {k : Store} → Exact s st above t (full k)
  published : {su : Stores} {u : Tree} → Step s.program (world st) (read s st.bindings above t) (world su) (read s su.bindings above u) → Exact s st above t (moved su u)

-- A published step made at this place.
abbrev StepAt : Code → Stores → List Frame → Tree → Path → Stores → Tree → Type 0
StepAt s st above t p su u = (k : Step s.program (world st) (read s st.bindings above t) (world su) (read s su.bindings above u)) × (site k ≡ p)

-- What the move at a place is; the flag says that the move due is silent.
data Faithful (s : Code) (st : Stores) (above : List Frame) (t : Tree) (p : Path) : Bool → Outcome → Type 0 where
  silent : {u : Tree} → read s st.bindings above u ≡ read s st.bindings above t → Faithful s st above t p true (moved st u)
  silent_full : {k : Store} → Faithful s st above t p true (full k)
  stays : Faithful s st above t p false still
  step_full : {k : Store} → Faithful s st above t p false (full k)
  steps : {su : Stores} {u : Tree} → StepAt s st above t p su u → Faithful s st above t p false (moved su u)

of_thread : {s : Code} {st : Stores} {above : List Frame} {t : Tree} {L : List ℕ} {a : PExpr} {o : Outcome} → read s st.bindings above t ≡ p_thread L a
    → Exact s st above t o → Faithful s st above t here false o
of_thread e no_change = stays
of_thread e no_place = step_full
of_thread e (published k) = steps (k, site_thread e k)

module _ {s : Code} {st : Stores} (ok : StoresOk s st) (above : List Frame) where
  -- a target, by the variable that its name means
  target_step : (t : Tree) (e x c : ℕ) (go : ℕ → Option Object → Outcome) → type_in (context st.bindings e) x ≡ some c
      → ((i : ℕ) → names st.bindings e x ≡ fresh i → entry_value (entries st.bindings) i ≡ some nil → Exact s st above t (moved st failed))
      → ((i o : ℕ) (y : Object) → names st.bindings e x ≡ fresh i → entry_value (entries st.bindings) i ≡ some (ref o) → object st.objects o ≡ some y → Sub s.program y.class c
      → Exact s st above t (go o (some y)))
      → Exact s st above t (on_target st go (find (scope st.bindings e) x))
  target_step t e x c go h null there =
      let f = fit_binding e x c ok.bindings h in
      let n = variable st.bindings e x f.binding f.there in
      rw f.there (on n.number n.name f.binding.value n.value f.fits)
    where
      on : (i : ℕ) → names st.bindings e x ≡ fresh i → (v : Value) → entry_value (entries st.bindings) i ≡ some v → ValueFits s st.objects v (upto c) → Exact s st above t (on_value st go v)
      on i k nil j q = null i k j
      on i k (int z) j q = no_change
      on i k (ref o) j (fits_ref {x = y} l (meets_type b)) = rw l (there i o y k j l b)

module _ {s : Code} {w : Want} {st : Stores} (ok : StoresOk s st) {start : ℕ} (acc : AcceptedCode s start) (room : Places) (above fs : List Frame) where
  module _ (v : Want) (r : FramesOk s st.bindings w fs v) (e : ℕ) (p : Point) where
    pub give_step : (x t : ℕ) → s.expr p ≡ var p x → type_in (context st.bindings e) x ≡ some t
        → Exact s st above (running p e fs) (give st fs (find (scope st.bindings e) x))
    give_step x t b h =
        let f = fit_binding e x t ok.bindings h in
        let n = variable st.bindings e x f.binding f.there in
        rw f.there (published {su = st} {u = returning f.binding.value fs} (rw (b, n.name) (plug_step s st.bindings fs (reduces (DYN-EVAL-VAR n.value)))))

    pub make_step : (c : ℕ) → s.expr p ≡ new p c → (k : ℕ) → Exact s st above (running p e fs) (make s st fs c k)
    make_step c b zero = no_place
    make_step c b (suc k) =
        published
        {su = record { objects = st.objects ++ (record { class = c; shut = false; fields = initials s.program (fields_of s.program c) } ∷ []); bindings = st.bindings }}
        {u = returning (ref (length st.objects)) fs}
        (rw b (plug_step s st.bindings fs (reduces DYN-EVAL-NEW)))

    pub spawn_step : (a b c : Point) → s.expr p ≡ fork p (s.expr a) (s.expr b) (s.expr c) → (k : ℕ) → Exact s st above (running p e fs) (spawn st fs e a b c k)
    spawn_step a b c i zero = no_place
    spawn_step a b c i (suc k) = published {su = st} {u = join fs c e (running a e []) (running b e [])} (rw i (plug_spawn s st.bindings fs (reduces DYN-EVAL-SPAWN)))

    enter_step : (x i o : ℕ) (a : Point) (y : Object) → s.expr p ≡ lock p x (s.expr a) → names st.bindings e x ≡ fresh i → entry_value (entries st.bindings) i ≡ some (ref o)
        → object st.objects o ≡ some y → y.shut ≡ true → (n : ℕ) → lock_frames o fs + lock_frames o above ≡ n
        → Exact s st above (running p e fs) (enter st fs a e n)
    enter_step x i o a y b h k l q zero c = no_change
    enter_step x i o a y b h k l q (suc n) c =
        published {su = st} {u = running a e fs} (rw (b, h) (plug_step s st.bindings fs (reduces (DYN-EVAL-LOCK-REENTRANT k l q (held_in o (fs ++ above) (omega (arith, frames_append o fs above)))))))

    take_step : (x i o : ℕ) (a : Point) (y : Object) → s.expr p ≡ lock p x (s.expr a) → names st.bindings e x ≡ fresh i → entry_value (entries st.bindings) i ≡ some (ref o)
        → object st.objects o ≡ some y → lock_frames o above + lock_frames o fs ≤ shut_at st.objects o → y.shut ≡ false → (n : ℕ)
        → Exact s st above (running p e fs) (shut_and_enter st fs a e o n)
    take_step x i o a y b h k l d q zero = no_place
    take_step x i o a y b h k l d q (suc n) =
        published {su = with_shut true st o} {u = running a e (locks o ∷ fs)}
        (rw (b, h)
        (plug_step s st.bindings fs
        (reduces (DYN-EVAL-LOCK k l q (λ m. omega (arith, in_held o (fs ++ above) m, frames_append o fs above, shut_at_object st.objects o y l, ap one_if q))))))

    object_step : (x i o : ℕ) (a : Point) (y : Object) → s.expr p ≡ lock p x (s.expr a) → names st.bindings e x ≡ fresh i → entry_value (entries st.bindings) i ≡ some (ref o)
        → object st.objects o ≡ some y → lock_frames o above + lock_frames o fs ≤ shut_at st.objects o → (q : Bool) → y.shut ≡ q
        → Exact s st above (running p e fs) (lock_object st above fs a e room.frames o (some (record { class = y.class; shut = q; fields = y.fields })))
    object_step x i o a y b h k l d true q = enter_step x i o a y b h k l q (lock_frames o fs + lock_frames o above) refl
    object_step x i o a y b h k l d false q = take_step x i o a y b h k l d q room.frames

    pub lock_step : (x t : ℕ) (a : Point) → s.expr p ≡ lock p x (s.expr a) → type_in (context st.bindings e) x ≡ some t → ((o : ℕ) → lock_frames o above + lock_frames o fs ≤ shut_at st.objects o)
        → Exact s st above (running p e fs) (on_target st (lock_object st above fs a e room.frames) (find (scope st.bindings e) x))
    lock_step x t a b h d =
        target_step ok above (running p e fs) e x t (lock_object st above fs a e room.frames) h
        (λ i n k. published {su = st} {u = failed} (rw (b, n) (plug_failed s st.bindings fs (reduces (DYN-NPE-LOCK k)))))
        (λ i o y n k l z. object_step x i o a y b n k l (d o) y.shut refl)

    pub select_step : (x f c u : ℕ) → s.expr p ≡ select p x f → type_in (context st.bindings e) x ≡ some c → FieldIn s.program c f u
        → Exact s st above (running p e fs) (on_target st (λ o. select_object s st fs f) (find (scope st.bindings e) x))
    select_step x f c u z h k =
        target_step ok above (running p e fs) e x c (λ o. select_object s st fs f) h
        (λ i n j. published {su = st} {u = failed} (rw (z, n) (plug_failed s st.bindings fs (reduces (DYN-NPE-SELECT j)))))
        (λ i o y n j l b. let d = field_declared acc k in let m : y.class ≡ c = below_class acc d.0 b in
        let q = fit_field (ok.heap o y l).fields f u (ap (λ (n : ℕ). type_in (fields_of s.program n) f) m ∙ d.1) in
        rw q.there (published {su = st} {u = returning q.value fs} (rw (z, n) (plug_step s st.bindings fs (reduces (DYN-EVAL-SELECT {t = u} j l (rw m k) q.there))))))

    -- a sum of two variables that are numbers, in range or not
    sum_step : (x y i j : ℕ) (a b : ℤ) → s.expr p ≡ add p x y → names st.bindings e x ≡ fresh i → names st.bindings e y ≡ fresh j
        → entry_value (entries st.bindings) i ≡ some (int a) → entry_value (entries st.bindings) j ≡ some (int b) → (q : Bool) → range_test (a +ℤ b) ≡ q
        → Exact s st above (running p e fs) (give_sum st fs (a +ℤ b) q)
    sum_step x y i j a b z m n h k true q =
        published {su = st} {u = returning (int (a +ℤ b)) fs}
        (rw (z, m, n) (plug_step s st.bindings fs (reduces (DYN-EVAL-ADD h k (omega (arith, ltb-true (mag (a +ℤ b)) HALF q))))))
    sum_step x y i j a b z m n h k false q =
        published {su = st} {u = failed}
        (rw (z, m, n) (plug_failed s st.bindings fs (reduces (DYN-EXCEPTION-ADD h k (λ r. omega (arith, ltb-false (mag (a +ℤ b)) HALF q))))))

    values_step : (x y i j : ℕ) → s.expr p ≡ add p x y → names st.bindings e x ≡ fresh i → names st.bindings e y ≡ fresh j → (v w : Value)
        → entry_value (entries st.bindings) i ≡ some v → entry_value (entries st.bindings) j ≡ some w
        → Exact s st above (running p e fs) (add_values st fs v w)
    values_step x y i j z m n nil w h k = no_change
    values_step x y i j z m n (ref o) w h k = no_change
    values_step x y i j z m n (int a) nil h k = no_change
    values_step x y i j z m n (int a) (ref o) h k = no_change
    values_step x y i j z m n (int a) (int b) h k = sum_step x y i j a b z m n h k (range_test (a +ℤ b)) refl

    pub add_step : (x y t u : ℕ) → s.expr p ≡ add p x y → type_in (context st.bindings e) x ≡ some t → type_in (context st.bindings e) y ≡ some u
        → Exact s st above (running p e fs) (add_bound st fs (find (scope st.bindings e) x) (find (scope st.bindings e) y))
    add_step x y t u z h k =
        let f = fit_binding e x t ok.bindings h in
        let g = fit_binding e y u ok.bindings k in
        let m = variable st.bindings e x f.binding f.there in
        let n = variable st.bindings e y g.binding g.there in
        rw (f.there, g.there) (values_step x y m.number n.number z m.name n.name f.binding.value g.binding.value m.value n.value)

    -- a part is run first: the reading stays
    descend_step : (a : Point) (f : Frame) → said s st.bindings e p ≡ fill (hole s st.bindings f) (said s st.bindings e a) → held (f ∷ (fs ++ above)) ≡ held (fs ++ above) → (k : ℕ)
        → Faithful s st above (running p e fs) here true (descend st fs e f a k)
    descend_step a f h i zero = silent_full
    descend_step a f h i (suc k) = silent (λ j. p_thread (i j) (plug s st.bindings fs (sym h j)))

    run_step : (n : Node) → s.view p ≡ n → s.expr p ≡ build p s.expr n → Gives s (context st.bindings e) (build p s.expr n) v
        → ((o : ℕ) → lock_frames o above + lock_frames o fs ≤ shut_at st.objects o)
        → Faithful s st above (running p e fs) here (quiet n) (run_node s room st above fs e p n)
    run_step n_null i b g d = silent {u = returning nil fs} (rw b)
    run_step (n_var x) i b (gives_type (BD-INFER-VAR w h) m) d = of_thread refl (give_step x _ b (type_in_lem h))
    run_step (n_select x f) i b (gives_type (BD-INFER-SELECT (BD-INFER-VAR w h) k o) m) d = of_thread refl (select_step x f _ _ b (type_in_lem h) k)
    run_step (n_update x f a) i b g d = descend_step a (awaits p e) (rw (i, b)) refl room.frames
    run_step (n_call x n a) i b g d = descend_step a (awaits p e) (rw (i, b)) refl room.frames
    run_step (n_bind x a c) i b g d = descend_step a (awaits p e) (rw (i, b)) refl room.frames
    run_step (n_new c) i b g d = of_thread refl (make_step c b room.objects)
    run_step (n_cast t a) i b g d = descend_step a (casts p) (rw (i, b)) refl room.frames
    run_step (n_fork a b c) i j g d = of_thread refl (spawn_step a b c j room.threads)
    run_step (n_lock x a) i b g d = of_thread refl (lock_step x _ a b (type_in_lem (lock_parts g).1) d)
    run_step (n_constant z) i b g d = silent {u = returning (int z) fs} (rw b)
    run_step (n_add x y) i b (gives_type (BD-INFER-ADD (BD-INFER-VAR w h) (BD-INFER-VAR z k) o) m) d =
        of_thread refl (add_step x y _ _ b (type_in_lem h) (type_in_lem k))

  module _ (p : Point) (e : ℕ) (v : Want) (x : Value) (r : FramesOk s st.bindings w fs v) where
    bind_step : (n t : ℕ) (a b : Point) → s.view p ≡ n_bind n a b → (k : ℕ)
        → Exact s st above (returning x (awaits p e ∷ fs)) (extend st fs n x b e (Ok t) k)
    bind_step n t a b i zero = no_place
    bind_step n t a b i (suc k) =
        let y : Binding = record { name = n; type = t; value = x; link = e } in
        let g = grows_binding st y in
        published
        {su = record { objects = st.objects; bindings = y ∷ st.bindings }}
        {u = running b (suc (length st.bindings)) fs}
        (rw (i, plug_grow g r (said s (y ∷ st.bindings) (suc (length st.bindings)) b), ← let_reading st.bindings e y (s.expr b) refl)
        (plug_step s st.bindings fs (reduces (DYN-EVAL-LET (length st.bindings) (sym (entry_count st.bindings)) (entry_new st.bindings)))))

    update_step : (n f c u : ℕ) (a : Point) → s.view p ≡ n_update n f a → type_in (context st.bindings e) n ≡ some c → FieldIn s.program c f u
        → Exact s st above (returning x (awaits p e ∷ fs)) (on_target st (update_object s st fs f x) (find (scope st.bindings e) n))
    update_step n f c u a k h d =
        target_step ok above (returning x (awaits p e ∷ fs)) e n c (update_object s st fs f x) h
        (λ i m j. published {su = st} {u = failed} (rw (k, m) (plug_failed s st.bindings fs (reduces (DYN-NPE-UPDATE j)))))
        (λ i o y m j l b. let z : y.class ≡ c = below_class acc (field_declared acc d).0 b in
        published
        {su = record { objects = set_fields (set_field x (fields_of s.program y.class) y.fields f) st.objects o; bindings = st.bindings }}
        {u = returning nil fs}
        (rw (k, m) (plug_step s st.bindings fs (reduces (DYN-EVAL-UPDATE {t = u} j l (rw z d))))))

    call_method_step : (n m i o t u : ℕ) (a : Point) (y : Object) → s.view p ≡ n_call n m a → names st.bindings e n ≡ fresh i → entry_value (entries st.bindings) i ≡ some (ref o)
        → object st.objects o ≡ some y → (b : Defined s y.class (record { name = m; param = t; result = u })) → (k : ℕ)
        → Exact s st above (returning x (awaits p e ∷ fs)) (call_method st fs x o y.class (some b.method) k)
    call_method_step n m i o t u a y z h j l b zero = no_place
    call_method_step n m i o t u a y z h j l b (suc zero) = no_place
    call_method_step n m i o t u a y z h j l b (suc (suc q)) =
        let self : Binding = record { name = 0; type = y.class; value = ref o; link = 0 } in
        let arg : Binding = record { name = 1; type = b.method.signature.param; value = x; link = suc (length st.bindings) } in
        let gr = grows_call st self arg in
        let at = point_of b.method.body in
        published
        {su = record { objects = st.objects; bindings = call_bindings y.class o b.method.signature.param x st.bindings }}
        {u = running at (suc (suc (length st.bindings))) fs}
        (rw (z, plug_grow gr r (said s (arg ∷ self ∷ st.bindings) (suc (suc (length st.bindings))) at), ← call_reading st.bindings self arg (s.expr at) refl refl refl refl, b.body, h)
        (plug_step s st.bindings fs
        (reduces
        (DYN-EVAL-CALL (length st.bindings) (suc (length st.bindings)) j l b.there (sym (entry_count st.bindings)) (entry_new st.bindings)
        (ap suc (sym (entry_count st.bindings))) (entry_older st.bindings (suc (length st.bindings)) (omega arith))))))

    call_step : (n m c t u : ℕ) (a : Point) → s.view p ≡ n_call n m a → type_in (context st.bindings e) n ≡ some c → MsigIn s.program c (record { name = m; param = t; result = u }) → (k : ℕ)
        → Exact s st above (returning x (awaits p e ∷ fs)) (on_target st (call_object s st fs m x k) (find (scope st.bindings e) n))
    call_step n m c t u a z h d k =
        target_step ok above (returning x (awaits p e ∷ fs)) e n c (call_object s st fs m x k) h
        (λ i g j. published {su = st} {u = failed} (rw (z, g) (plug_failed s st.bindings fs (reduces (DYN-NPE-CALL j)))))
        (λ i o y g j l b. let q = defined acc (ok.heap o y l).class (below_method acc b d) in rw q.there (call_method_step n m i o t u a y z g j l q k))

    wake_step : (t : ℕ) (n : Node) → s.view p ≡ n → Awaits s (context st.bindings e) n t v → Exact s st above (returning x (awaits p e ∷ fs)) (wake s room st x fs e n)
    wake_step t (n_bind y a b) i (a_let h k) = rw (infer_computes acc h) (bind_step y t a b i room.bindings)
    wake_step t (n_update y f a) i (a_write {c = c} h d m) = update_step y f c t a i (type_in_lem h) d
    wake_step t (n_call y m a) i (a_call {c = c} {u = u} h d o) = call_step y m c t u a i (type_in_lem h) d room.bindings
    wake_step t n_null i h = elim h [ ]
    wake_step t (n_var _) i h = elim h [ ]
    wake_step t (n_select _ _) i h = elim h [ ]
    wake_step t (n_new _) i h = elim h [ ]
    wake_step t (n_cast _ _) i h = elim h [ ]
    wake_step t (n_fork _ _ _) i h = elim h [ ]
    wake_step t (n_lock _ _) i h = elim h [ ]
    wake_step t (n_constant _) i h = elim h [ ]
    wake_step t (n_add _ _) i h = elim h [ ]

-- a shut object is in the store
record ShutObject (xs : List Object) (o : ℕ) : Type 0 where
  now : Object
  there : object xs o ≡ some now
  shut : now.shut ≡ true

shut_flag : (b : Bool) → one_if b ≡ 1 → b ≡ true
shut_flag true h = refl
shut_flag false h = absurd (omega arith)

shut_object : (xs : List Object) (o : ℕ) → shut_at xs o ≡ 1 → ShutObject xs o
shut_object [] o h = absurd (omega arith)
shut_object (x ∷ xs) zero h = record { now = x; there = refl; shut = shut_flag x.shut h }
shut_object (x ∷ xs) (suc o) h = let r = shut_object xs o h in record { now = r.now; there = r.there; shut = r.shut }

remove_first : (o : ℕ) (fs : List Frame) → lock_frames o fs ≡ 0 → remove o (o ∷ held fs) ≡ held fs
remove_first o fs h = rw (eq-eqb o o refl) (remove_held o fs h)

release_step : {s : Code} {st : Stores} (above fs : List Frame) (o : ℕ) (x : Value) → lock_frames o above + lock_frames o (locks o ∷ fs) ≤ shut_at st.objects o
    → Exact s st above (returning x (locks o ∷ fs)) (moved (with_shut false st o) (returning x fs))
release_step {s} {st} above fs o x d =
    let i : one_if (eqb o o) ≡ 1 = ap one_if (eq-eqb o o refl) in
    let m : shut_at st.objects o ≤ 1 = shut_at_le st.objects o in
    let y = shut_object st.objects o (omega arith) in
    let q : lock_frames o (fs ++ above) ≡ 0 = omega (arith, frames_append o fs above) in
    published
    {su = with_shut false st o}
    {u = returning x fs}
    (subst
    (λ (M : List ℕ). Step s.program (world st) (read s st.bindings above (returning x (locks o ∷ fs))) (world (with_shut false st o)) (p_thread M (plug s st.bindings fs (p_value x))))
    (remove_first o (fs ++ above) q)
    (plug_step s st.bindings fs (reduces (DYN-EVAL-LOCK-RELEASE y.there y.shut))))

pub resume_step : {s : Code} {w : Want} {st : Stores} (ok : StoresOk s st) {start : ℕ} (acc : AcceptedCode s start) (room : Places) (above fs : List Frame) (x : Value) (v : Want)
    → FramesOk s st.bindings w fs v → ((o : ℕ) → lock_frames o above + lock_frames o fs ≤ shut_at st.objects o)
    → Exact s st above (returning x fs) (resume s room st x fs)
resume_step ok acc room above [] x v r d = no_change
resume_step {s} ok acc room above (awaits n e ∷ fs) x v (a_node {t = t} {v = v'} i le h r) d =
    wake_step ok acc room above fs n e v' x r t (s.view n) refl h
resume_step {s} {st = st} ok acc room above (casts n ∷ fs) x v (a_cast i h m r) d =
    published {su = st} {u = returning x fs} (rw h (plug_step s st.bindings fs (reduces DYN-EVAL-CAST)))
resume_step ok acc room above (locks o ∷ fs) x v r d = release_step above fs o x (d o)

-- joins
is_finished : (t : Tree) → phase t ≡ finished → (v : Value) × (t ≡ returning v [])
is_finished (running a e fs) h = absurd (differ h)
  where
    differ : busy ≡ finished → ⊥
    differ k = let z : ◌≡◌ {A = ℕ} 0 1 = cc in omega arith
is_finished (returning v []) h = (v, refl)
is_finished (returning v (f ∷ fs)) h = (v, cc)
is_finished failed h = (nil, cc)
is_finished (join fs a e l r) h = (nil, cc)

module _ {s : Code} {st : Stores} (above fs : List Frame) (a : Point) (e : ℕ) (l r : Tree) where
  fold_step : (p q : Phase) → phase l ≡ p → phase r ≡ q → Faithful s st above (join fs a e l r) here false (fold st fs a e p q)
  fold_step finished finished h k = steps {su = st} {u = running a e fs} (rw ((is_finished l h).1, (is_finished r k).1) (DYN-EVAL-ASYNC-JOIN, refl))
  fold_step finished broken h k = steps {su = st} {u = failed} (rw (is_broken r k) (DYN-EXCEPTION-ASYNC-RIGHT, refl))
  fold_step finished busy h k = stays
  fold_step broken q h k = steps {su = st} {u = failed} (rw (is_broken l h) (DYN-EXCEPTION-ASYNC-LEFT, refl))
  fold_step busy finished h k = stays
  fold_step busy broken h k = steps {su = st} {u = failed} (rw (is_broken r k) (DYN-EXCEPTION-ASYNC-RIGHT, refl))
  fold_step busy busy h k = stays

  module _ {w v : Want} (le : e ≤ length st.bindings) (k : FramesOk s st.bindings w fs v) where
    pub last_grow : {su : Stores} → Grows st su → plug s su.bindings fs (said s su.bindings e a) ≡ plug s st.bindings fs (said s st.bindings e a)
    last_grow g = plug_grow g k _ ∙ ap (plug s st.bindings fs) (said_grow s g e a le)

    left_step : TreeOk s st any r → {p : Path} {q : Bool} {o : Outcome} → Judged s any st l (Unit {0}) o → Faithful s st (fs ++ above) l p q o
        → Faithful s st above (join fs a e l r) (left p) q (in_left_tree fs a e r o)
    left_step y j (silent h) = silent (ap (λ (z : PTree). p_join z (read s st.bindings [] r) (plug s st.bindings fs (said s st.bindings e a))) h)
    left_step y j silent_full = silent_full
    left_step y j stays = stays
    left_step y j step_full = step_full
    left_step y (a_move f) (steps {su = su} {u = u} h) =
        steps {su = su} {u = join fs a e u r} (rw (read_grow f.grows [] y, last_grow f.grows) (DYN-EVAL-ASYNC-LEFT h.0, ap left h.1))

    right_step : TreeOk s st any l → {p : Path} {q : Bool} {o : Outcome} → Judged s any st r (Unit {0}) o → Faithful s st [] r p q o
        → Faithful s st above (join fs a e l r) (right p) q (in_right_tree fs a e l o)
    right_step y j (silent h) = silent (ap (λ (z : PTree). p_join (read s st.bindings (fs ++ above) l) z (plug s st.bindings fs (said s st.bindings e a))) h)
    right_step y j silent_full = silent_full
    right_step y j stays = stays
    right_step y j step_full = step_full
    right_step y (a_move f) (steps {su = su} {u = u} h) =
        steps {su = su} {u = join fs a e l u} (rw (read_grow f.grows (fs ++ above) y, last_grow f.grows) (DYN-EVAL-ASYNC-RIGHT h.0, ap right h.1))

move_step : {s : Code} {w : Want} {st : Stores} {start : ℕ} (acc : AcceptedCode s start) (room : Places) (above : List Frame) (t : Tree) (p : Path)
    → StoresOk s st → TreeOk s st w t → ((o : ℕ) → lock_frames o above + lock_count o t ≤ shut_at st.objects o)
    → Faithful s st above t p (quiet_in s (part t p)) (move_at s room st above t p)
move_step {s} acc room above (running a e fs) here ok (running_ok le g r) k = run_step ok acc room above fs _ r e a (s.view a) refl (acc.built a g.node) (rw (acc.built a g.node) at g.gives) k
move_step acc room above (running a e fs) (left p) ok x k = stays
move_step acc room above (running a e fs) (right p) ok x k = stays
move_step acc room above (returning v fs) here ok (returning_ok f r) k = of_thread refl (resume_step ok acc room above fs v _ r k)
move_step acc room above (returning v fs) (left p) ok x k = stays
move_step acc room above (returning v fs) (right p) ok x k = stays
move_step acc room above failed here ok x k = stays
move_step acc room above failed (left p) ok x k = stays
move_step acc room above failed (right p) ok x k = stays
move_step acc room above (join fs a e l r) here ok x k = fold_step above fs a e l r (phase l) (phase r) refl refl
move_step acc room above (join fs a e l r) (left p) ok (join_ok le g h x y) k =
    left_step above fs a e l r le h y (move_good acc room (fs ++ above) l p ok x (λ o. omega (arith, k o)))
    (move_step acc room (fs ++ above) l p ok x (λ o. omega (arith, k o, frames_append o fs above)))
move_step acc room above (join fs a e l r) (right p) ok (join_ok le g h x y) k =
    right_step above fs a e l r le h x (move_good acc room [] r p ok y (λ o. omega (arith, k o)))
    (move_step acc room [] r p ok y (λ o. omega (arith, k o)))

-- Every move of a well-formed configuration leaves the stores and the reading as they were where it is silent by its kind, else it is one published step.
faithful : {s : Code} {start : ℕ} (acc : AcceptedCode s start) (lim : Places) {w : Want} {c : Config} (p : Path) → WfConfig s w c
    → Faithful s c.stores [] c.tree p (quiet_in s (part c.tree p)) (move s lim c p)
unfolding move
faithful acc lim {c = c} p h = move_step acc (spare lim c.stores c.tree) [] c.tree p h.stores h.tree (λ o. omega (arith, h.distinct o))

-- what that says of a move made
meant : {s : Code} {c : Config} {p : Path} {su : Stores} {u : Tree} {q : Bool} → Faithful s c.stores [] c.tree p q (moved su u) → Means s c (record { stores = su; tree = u }) q
meant {s} {c} (silent h) = silently refl (λ i. record { world = world c.stores; threads = h i })
meant (steps h) = publicly h.0

-- Moves are published: a move is one of the listed silent ones and leaves the reading as it was, or is one published step from reading to reading.
pub moves_published : {s : Code} {start : ℕ} (acc : AcceptedCode s start) (lim : Places) {w : Want} {c : Config} (p : Path) {su : Stores} {u : Tree} → WfConfig s w c → move s lim c p ≡ moved su u
    → Means s c (record { stores = su; tree = u }) (quiet_in s (part c.tree p))
moves_published acc lim p h e = meant (rw e at (faithful acc lim p h))

-- And the same with its place: the published step is made where the move is, and the silent move is the one listed for the node of the thread there.
placed : {s : Code} {c : Config} {p : Path} {su : Stores} {u : Tree} {q : Bool} → Faithful s c.stores [] c.tree p q (moved su u) → (q ≡ true → SilentAt s p c.tree u)
    → Transition s c p (record { stores = su; tree = u })
placed {s} {c} (silent h) f = silent_move (f refl) refl (λ i. record { world = world c.stores; threads = h i })
placed (steps h) f = published_step h.0 h.1

pub moves_transitions : {s : Code} {start : ℕ} (acc : AcceptedCode s start) (lim : Places) {w : Want} {c : Config} (p : Path) {su : Stores} {u : Tree} → WfConfig s w c → move s lim c p ≡ moved su u
    → Transition s c p (record { stores = su; tree = u })
unfolding move
moves_transitions {s} acc lim {c = c} p {su} {u} h e =
    placed (rw e at (faithful acc lim p h)) (λ q. silent_at s (spare lim c.stores c.tree) c.stores [] c.tree p su u q e)
