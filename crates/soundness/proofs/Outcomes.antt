-- What the move due at a place comes to. At a thread or a join there is none, or it needs more places than a store has left, or it fails on null, on a sum outside the range or by a failed side, or it goes on with
-- no failed thread and takes no more places than are left. In the whole tree that part changes, and all else stays.
use Prim.Native.Nat.{ℕ, zero, suc, ◌+◌, ◌≤◌}
use native.Mathlib.Omega.{arith}
use mathlib.Core.Path.{◌≡◌, refl, ap}
use mathlib.Core.Bool.{Bool, true, false}
use mathlib.Core.List.{List, [], ◌∷◌, ◌++◌}
use mathlib.Core.Logic.{◌⊎◌, inl, inr}
use mathlib.Core.Option.{Option, none, some}
use lib.IntN.{ℤ, ◌+ℤ◌}
use lib.ListN.{length, length-append}
use Rattle.words.specs.Integer.{range_test}
use Rattle.words.proofs.Integers.{range_exactly}
use Rattle.script.specs.Syntax.{Point, Node, n_null, n_var, n_select, n_update, n_call, n_bind, n_new, n_cast, n_fork, n_lock, n_constant, n_add, Method}
use Rattle.std.specs.declared.result.Result.TheVariants.{Ok, Err}
use Rattle.typing.specs.Answers.{Answer}
use Rattle.typing.specs.Members.{fields_of, defined_in}
use Rattle.typing.specs.Typing.{inferred}
use Rattle.machine.specs.declared.Store.{Store}
use Rattle.machine.specs.declared.Value.{Value}
use Rattle.machine.specs.declared.Value.TheVariants.{Null as nil, Ref as ref, Int as int}
use Rattle.machine.specs.declared.Frame.{Frame}
use Rattle.machine.specs.declared.Frame.TheVariants.{Awaits as awaits, Casts as casts, Locks as locks}
use Rattle.machine.specs.Config.{Code, Object, Binding, Stores, Tree, running, returning, failed, join}
use Rattle.machine.specs.Machine.{scope, context, find, ValueOf, object, set_shut, set_fields, field_value, lock_frames, Places, frame_count, thread_count, Outcome, still, full, moved, give, on_value, on_target, descend, make, spawn, enter, shut_and_enter, lock_object, extend, select_field, select_object, update_object, call_method, call_object, give_sum, add_values, add_bound, run_node, wake, resume, Phase, finished, broken, busy, phase, fold, in_left_tree, in_right_tree, Path, here, left, right, move_at, part}
use Rattle.machine.specs.Silent.{descends, ChangedAt, changed_here, changed_left, changed_right}
use Rattle.machine.specs.OnNull.{Fails, null_read, null_lock, null_write, null_call, sum_outside, left_failed, right_failed}
use Rattle.machine.specs.FullStore.{Short, no_object, no_binding, no_two, no_frame, no_lock, no_thread}
use Rattle.soundness.proofs.Trees.{is_broken}

-- trees without a failed thread, as a move leaves them at its place
pub data Unfailed : Tree → Type 0 where
  u_running : {a : Point} {e : ℕ} {fs : List Frame} → Unfailed (running a e fs)
  u_returning : {v : Value} {fs : List Frame} → Unfailed (returning v fs)
  u_join : {a b c : Point} {e : ℕ} {fs : List Frame} → Unfailed (join fs c e (running a e []) (running b e []))

-- What a move takes of what is left.
pub record Takes (room : Places) (st : Stores) (t : Tree) (su : Stores) (u : Tree) : Type 0 where
  pub objects : length su.objects ≤ length st.objects + room.objects
  pub bindings : length su.bindings ≤ length st.bindings + room.bindings
  pub frames : frame_count u ≤ frame_count t + room.frames
  pub threads : thread_count u ≤ thread_count t + room.threads

-- What holds of the outcome of a part's move.
abbrev pub Why : Code → Places → Stores → Tree → Outcome → Type 0
Why s room st t still = Unit {0}
Why s room st t (full k) = Short s room st t k
Why s room st t (moved su u) = Takes room st t su u × (Unfailed u ⊎ ((u ≡ failed) × Fails s st t))

length_shut : (b : Bool) (xs : List Object) (o : ℕ) → length (set_shut b xs o) ≡ length xs
length_shut b [] o = refl
length_shut b (x ∷ xs) zero = refl
length_shut b (x ∷ xs) (suc o) = ap suc (length_shut b xs o)

length_fields : (l : List Value) (xs : List Object) (o : ℕ) → length (set_fields l xs o) ≡ length xs
length_fields l [] o = refl
length_fields l (x ∷ xs) zero = refl
length_fields l (x ∷ xs) (suc o) = ap suc (length_fields l xs o)

module _ (s : Code) (room : Places) (st : Stores) where
  -- the stores stay
  stays : (t u : Tree) → Unfailed u → frame_count u ≤ frame_count t + room.frames → thread_count u ≤ thread_count t + room.threads → Why s room st t (moved st u)
  stays t u n f k = (record { objects = omega arith; bindings = omega arith; frames = f; threads = k }, inl n)

  threads_one : (t : Tree) → 1 ≤ thread_count t
  threads_one (running a e fs) = omega arith
  threads_one (returning v fs) = omega arith
  threads_one failed = omega arith
  threads_one (join fs a e l r) = omega (arith, threads_one l)

  fails : (t : Tree) → Fails s st t → Why s room st t (moved st failed)
  fails t f = (record { objects = omega arith; bindings = omega arith; frames = omega arith; threads = omega (arith, threads_one t) }, inr (refl, f))

  -- a target is found by its variable
  module _ {t : Tree} (e x : ℕ) (go : ℕ → Option Object → Outcome) (null : ValueOf st e x nil → Fails s st t)
      (there : (o : ℕ) → ValueOf st e x (ref o) → (q : Option Object) → object st.objects o ≡ q → Why s room st t (go o q)) where
    on_value_lem : (b : Binding) → find (scope st.bindings e) x ≡ some b → (v : Value) → b.value ≡ v → Why s room st t (on_value st go v)
    on_value_lem b h nil i = fails _ (null (record { binding = b; there = h; value = i }))
    on_value_lem b h (ref o) i = there o (record { binding = b; there = h; value = i }) (object st.objects o) refl
    on_value_lem b h (int z) i = tt

    on_target_lem : (q : Option Binding) → find (scope st.bindings e) x ≡ q → Why s room st t (on_target st go q)
    on_target_lem none h = tt
    on_target_lem (some b) h = on_value_lem b h b.value refl

  module _ (above fs : List Frame) (e : ℕ) (p : Point) where
    give_why : (q : Option Binding) → Why s room st (running p e fs) (give st fs q)
    give_why none = tt
    give_why (some b) = stays _ _ u_returning (omega arith) (omega arith)

    descend_why : descends (s.view p) ≡ true → (f : Frame) (a : Point) (k : ℕ) → room.frames ≡ k → Why s room st (running p e fs) (descend st fs e f a k)
    descend_why d f a zero h = (no_frame d (omega arith))
    descend_why d f a (suc k) h = stays _ _ u_running (omega arith) (omega arith)

    make_why : (c k : ℕ) → s.view p ≡ n_new c → room.objects ≡ k → Why s room st (running p e fs) (make s st fs c k)
    make_why c zero i h = (no_object i (omega arith))
    make_why c (suc k) i h = (record { objects = simp length-append (omega arith); bindings = omega arith; frames = omega arith; threads = omega arith }, inl u_returning)

    spawn_why : (a b c : Point) (k : ℕ) → s.view p ≡ n_fork a b c → room.threads ≡ k → Why s room st (running p e fs) (spawn st fs e a b c k)
    spawn_why a b c zero i h = (no_thread i (omega arith))
    spawn_why a b c (suc k) i h = stays _ _ u_join (omega arith) (omega arith)

    enter_why : (a : Point) (n : ℕ) → Why s room st (running p e fs) (enter st fs a e n)
    enter_why a zero = tt
    enter_why a (suc n) = stays _ _ u_running (omega arith) (omega arith)

    module _ (x : ℕ) (a : Point) (i : s.view p ≡ n_lock x a) (o : ℕ) (v : ValueOf st e x (ref o)) where
      shut_why : (y : Object) → object st.objects o ≡ some y → y.shut ≡ false → (k : ℕ) → room.frames ≡ k → Why s room st (running p e fs) (shut_and_enter st fs a e o k)
      shut_why y l z zero h = (no_lock i (record { number = o; holds = v; object = l }) z (omega arith))
      shut_why y l z (suc k) h = (record { objects = simp length_shut (omega arith); bindings = omega arith; frames = omega arith; threads = omega arith }, inl u_running)

      lock_why : (y : Object) → object st.objects o ≡ some y → (q : Bool) → y.shut ≡ q
          → Why s room st (running p e fs) (lock_object st above fs a e room.frames o (some (record { class = y.class; shut = q; fields = y.fields })))
      lock_why y l true z = enter_why a (lock_frames o fs + lock_frames o above)
      lock_why y l false z = shut_why y l z room.frames refl

      object_why : (q : Option Object) → object st.objects o ≡ q → Why s room st (running p e fs) (lock_object st above fs a e room.frames o q)
      object_why none h = tt
      object_why (some y) h = lock_why y h y.shut refl

    field_why : (q : Option Value) → Why s room st (running p e fs) (select_field st fs q)
    field_why none = tt
    field_why (some v) = stays _ _ u_returning (omega arith) (omega arith)

    select_why : (f : ℕ) (q : Option Object) → Why s room st (running p e fs) (select_object s st fs f q)
    select_why f none = tt
    select_why f (some y) = field_why (field_value (fields_of s.program y.class) y.fields f)

    -- a sum
    module _ (x y : ℕ) (i : s.view p ≡ n_add x y) where
      sum_why : {j k : ℤ} → ValueOf st e x (int j) → ValueOf st e y (int k) → (q : Bool) → range_test (j +ℤ k) ≡ q
          → Why s room st (running p e fs) (give_sum st fs (j +ℤ k) q)
      sum_why v w true h = stays _ _ u_returning (omega arith) (omega arith)
      sum_why {j} {k} v w false h =
          fails _ (sum_outside i v w (λ r. let t : range_test (j +ℤ k) ≡ true = (range_exactly (j +ℤ k)).1 r in let z : ◌≡◌ {A = ℕ} 0 1 = cc in omega arith))

      values_why : (v w : Value) → ValueOf st e x v → ValueOf st e y w → Why s room st (running p e fs) (add_values st fs v w)
      values_why nil w g h = tt
      values_why (ref o) w g h = tt
      values_why (int j) nil g h = tt
      values_why (int j) (ref o) g h = tt
      values_why (int j) (int k) g h = sum_why g h (range_test (j +ℤ k)) refl

      add_why : (q r : Option Binding) → find (scope st.bindings e) x ≡ q → find (scope st.bindings e) y ≡ r
          → Why s room st (running p e fs) (add_bound st fs q r)
      add_why none r g h = tt
      add_why (some b) none g h = tt
      add_why (some b) (some c) g h =
          values_why b.value c.value (record { binding = b; there = g; value = refl }) (record { binding = c; there = h; value = refl })

    run_why : (n : Node) → s.view p ≡ n → Why s room st (running p e fs) (run_node s room st above fs e p n)
    run_why n_null i = stays _ _ u_returning (omega arith) (omega arith)
    run_why (n_var x) i = give_why (find (scope st.bindings e) x)
    run_why (n_select x f) i = on_target_lem e x (λ o. select_object s st fs f) (null_read i) (λ o v q h. select_why f q) (find (scope st.bindings e) x) refl
    run_why (n_update x f a) i = descend_why (ap descends i) (awaits p e) a room.frames refl
    run_why (n_call x m a) i = descend_why (ap descends i) (awaits p e) a room.frames refl
    run_why (n_bind x a b) i = descend_why (ap descends i) (awaits p e) a room.frames refl
    run_why (n_new c) i = make_why c room.objects i refl
    run_why (n_cast t a) i = descend_why (ap descends i) (casts p) a room.frames refl
    run_why (n_fork a b c) i = spawn_why a b c room.threads i refl
    run_why (n_lock x a) i = on_target_lem e x (lock_object st above fs a e room.frames) (null_lock i) (object_why x a i) (find (scope st.bindings e) x) refl
    run_why (n_constant z) i = stays _ _ u_returning (omega arith) (omega arith)
    run_why (n_add x y) i = add_why x y i (find (scope st.bindings e) x) (find (scope st.bindings e) y) refl refl

    -- a value at a waiting node
    module _ (v : Value) where
      extend_why : (x : ℕ) (a b : Point) → s.view p ≡ n_bind x a b → (q : Answer) (k : ℕ) → room.bindings ≡ k → Why s room st (returning v (awaits p e ∷ fs)) (extend st fs x v b e q k)
      extend_why x a b i (Err _) k h = tt
      extend_why x a b i (Ok t) zero h = (no_binding i (omega arith))
      extend_why x a b i (Ok t) (suc k) h = (record { objects = omega arith; bindings = omega arith; frames = omega arith; threads = omega arith }, inl u_running)

      update_why : (f o : ℕ) (q : Option Object) → Why s room st (returning v (awaits p e ∷ fs)) (update_object s st fs f v o q)
      update_why f o none = tt
      update_why f o (some y) = (record { objects = simp length_fields (omega arith); bindings = omega arith; frames = omega arith; threads = omega arith }, inl u_returning)

      module _ (x m : ℕ) (a : Point) (i : s.view p ≡ n_call x m a) (o : ℕ) (w : ValueOf st e x (ref o)) where
        method_why : (y : Object) → object st.objects o ≡ some y → (d : Option Method) (k : ℕ) → room.bindings ≡ k → Why s room st (returning v (awaits p e ∷ fs)) (call_method st fs v o y.class d k)
        method_why y l none k h = tt
        method_why y l (some d) zero h = (no_two i (record { number = o; holds = w; object = l }) (omega arith))
        method_why y l (some d) (suc zero) h = (no_two i (record { number = o; holds = w; object = l }) (omega arith))
        method_why y l (some d) (suc (suc k)) h = (record { objects = omega arith; bindings = omega arith; frames = omega arith; threads = omega arith }, inl u_running)

        call_why : (q : Option Object) → object st.objects o ≡ q → Why s room st (returning v (awaits p e ∷ fs)) (call_object s st fs m v room.bindings o q)
        call_why none l = tt
        call_why (some y) l = method_why y l (defined_in s.program y.class m) room.bindings refl

      wake_why : (n : Node) → s.view p ≡ n → Why s room st (returning v (awaits p e ∷ fs)) (wake s room st v fs e n)
      wake_why n_null i = tt
      wake_why (n_var x) i = tt
      wake_why (n_select x f) i = tt
      wake_why (n_update x f a) i = on_target_lem e x (update_object s st fs f v) (null_write i) (λ o w q h. update_why f o q) (find (scope st.bindings e) x) refl
      wake_why (n_call x m a) i = on_target_lem e x (call_object s st fs m v room.bindings) (null_call i) (call_why x m a i) (find (scope st.bindings e) x) refl
      wake_why (n_bind x a b) i = extend_why x a b i (inferred s.program (context st.bindings e) (s.expr a)) room.bindings refl
      wake_why (n_new c) i = tt
      wake_why (n_cast t a) i = tt
      wake_why (n_fork a b c) i = tt
      wake_why (n_lock x a) i = tt
      wake_why (n_constant z) i = tt
      wake_why (n_add x y) i = tt

  resume_why : (v : Value) (fs : List Frame) → Why s room st (returning v fs) (resume s room st v fs)
  resume_why v [] = tt
  resume_why v (awaits n e ∷ fs) = wake_why [] fs e n v (s.view n) refl
  resume_why v (casts n ∷ fs) = stays _ _ u_returning (omega arith) (omega arith)
  resume_why v (locks o ∷ fs) = (record { objects = simp length_shut (omega arith); bindings = omega arith; frames = omega arith; threads = omega arith }, inl u_returning)

  fold_why : (fs : List Frame) (a : Point) (e : ℕ) (l r : Tree) (p q : Phase) → phase l ≡ p → phase r ≡ q → Why s room st (join fs a e l r) (fold st fs a e p q)
  fold_why fs a e l r finished finished h k = stays _ _ u_running (omega arith) (omega (arith, threads_one l))
  fold_why fs a e l r finished broken h k = fails _ (right_failed (is_broken r k))
  fold_why fs a e l r finished busy h k = tt
  fold_why fs a e l r broken q h k = fails _ (left_failed (is_broken l h))
  fold_why fs a e l r busy finished h k = tt
  fold_why fs a e l r busy broken h k = fails _ (right_failed (is_broken r k))
  fold_why fs a e l r busy busy h k = tt

  pub why : (above : List Frame) (t : Tree) → Why s room st t (move_at s room st above t here)
  why above (running a e fs) = run_why above fs e a (s.view a) refl
  why above (returning v fs) = resume_why v fs
  why above failed = tt
  why above (join fs a e l r) = fold_why fs a e l r (phase l) (phase r) refl refl

  -- What the choice of a place comes to: the part there, with some frames above it, meets a full store, or makes its move.
  pub data Made (t : Tree) (p : Path) : Outcome → Type 0 where
    made_none : Made t p still
    made_full : (above : List Frame) (u : Tree) {k : Store} → part t p ≡ some u → move_at s room st above u here ≡ full k → Made t p (full k)
    made_move : {su : Stores} {u : Tree} → ChangedAt (λ x y. (above : List Frame) × (move_at s room st above x here ≡ moved su y)) p t u → Made t p (moved su u)

  root_made : (above : List Frame) (t : Tree) (o : Outcome) → move_at s room st above t here ≡ o → Made t here o
  root_made above t still h = made_none
  root_made above t (full k) h = made_full above t refl h
  root_made above t (moved su u) h = made_move (changed_here (above, h))

  module _ (fs : List Frame) (a : Point) (e : ℕ) (l r : Tree) where
    left_made : {p : Path} {o : Outcome} → Made l p o → Made (join fs a e l r) (left p) (in_left_tree fs a e r o)
    left_made made_none = made_none
    left_made (made_full above u h m) = made_full above u h m
    left_made (made_move x) = made_move (changed_left x)

    right_made : {p : Path} {o : Outcome} → Made r p o → Made (join fs a e l r) (right p) (in_right_tree fs a e l o)
    right_made made_none = made_none
    right_made (made_full above u h m) = made_full above u h m
    right_made (made_move x) = made_move (changed_right x)

  pub made : (above : List Frame) (t : Tree) (p : Path) → Made t p (move_at s room st above t p)
  made above t here = root_made above t (move_at s room st above t here) refl
  made above (running a e fs) (left p) = made_none
  made above (running a e fs) (right p) = made_none
  made above (returning v fs) (left p) = made_none
  made above (returning v fs) (right p) = made_none
  made above failed (left p) = made_none
  made above failed (right p) = made_none
  made above (join fs a e l r) (left p) = left_made fs a e l r (made (fs ++ above) l p)
  made above (join fs a e l r) (right p) = right_made fs a e l r (made [] r p)
