-- Each published step of a reading is reached by choices, unless a store is full.
use Prim.Native.Nat.{ℕ, zero, suc, ◌+◌, ◌-◌, ◌≤◌, ◌<◌}
use native.Mathlib.Omega.{arith}
use mathlib.Core.Path.{◌≡◌, refl, sym, ◌∙◌, ap}
use mathlib.Core.Logic.{◌⊎◌, inl, inr, ⊎_elim}
use mathlib.Core.Bool.{true, false}
use mathlib.Core.List.{List, [], ◌∷◌, ◌++◌}
use mathlib.Core.Option.{some}
use lib.ListN.{length}
use lib.IntN.{ℤ}
use Rattle.script.specs.Lists.{◌∈◌}
use Rattle.script.specs.Syntax.{Point, Node, n_null, n_var, n_select, n_update, n_call, n_bind, n_new, n_cast, n_fork, n_lock, n_constant, n_add, build, parts, Program, Expr}
use Rattle.script.proofs.Declarations.{declared_int}
use Rattle.script.proofs.Reading.{first}
use Rattle.typing.specs.Published.{BD-INFER-VAR, BD-INFER-CALL, BD-INFER-CAST, BD-INFER-SELECT, BD-INFER-UPDATE, BD-INFER-INT, BD-INFER-ADD}
use Rattle.typing.proofs.Environments.{type_in_lem}
use Rattle.machine.specs.declared.Store.{Store}
use Rattle.machine.specs.declared.Store.TheVariants.{Frames}
use Rattle.machine.specs.declared.Value.{Value}
use Rattle.machine.specs.declared.Value.TheVariants.{Null as nil, Ref as ref, Int as int}
use Rattle.machine.specs.declared.Frame.{Frame}
use Rattle.machine.specs.declared.Frame.TheVariants.{Awaits as awaits, Casts as casts}
use Rattle.machine.specs.Config.{Code, Binding, Stores, Tree, running, returning, failed, join}
use Rattle.machine.specs.Machine.{context, one_if, lock_frames, Places, spare, frame_count, thread_count, descend, run_node, Outcome, still, full, moved, phase, in_left_tree, in_right_tree, Path, here, left, right, move_at, held, part}
use Rattle.machine.specs.declared.Want.{Want}
use Rattle.machine.specs.declared.Want.TheVariants.{Any as any, Upto as upto}
use Rattle.machine.specs.WellFormed.{ValueFits, fits_nil, fits_int, Gives, gives_type, NodeGives, StoresOk, a_let, a_write, a_call, FramesOk, a_node, a_cast, TreeOk, running_ok, returning_ok, join_ok, lock_count, shut_at}
use Rattle.machine.specs.Accepted.{LaterPart, AcceptedCode}
use Rattle.machine.specs.Ends.{Waits, waits}
use Rattle.published.specs.Steps.{PVar, fresh, PExpr, p_value, p_lock, close, fill, PTree, p_thread, p_join, p_failed, World, entry_value, Reduce, DYN-EVAL-LOCK, DYN-EVAL-LOCK-REENTRANT, DYN-NPE-LOCK, Step, reduces, DYN-EVAL-CONTEXT, DYN-EVAL-SPAWN-CONTEXT, DYN-EXCEPTION-CONTEXT, DYN-EVAL-ASYNC-LEFT, DYN-EVAL-ASYNC-RIGHT, DYN-EVAL-ASYNC-JOIN, DYN-EXCEPTION-ASYNC-LEFT, DYN-EXCEPTION-ASYNC-RIGHT}
use Rattle.published.specs.ReadAs.{names, hole, plug, world, said, read}
use Rattle.machine.specs.Silent.{quiet, quiet_in}
use Rattle.published.specs.Reach.{site, Near, itself, left_side, right_side, in_left, in_right}
use Rattle.machine.proofs.Types.{null_given, check_gives, let_parts, lock_parts, infer_gives}
use Rattle.soundness.proofs.Stores.{shut_at_object}
use Rattle.soundness.proofs.Grow.{Grows, grows_same}
use Rattle.soundness.proofs.Move.{Judged, no_move, a_move, run_good, resume_good}
use Rattle.soundness.proofs.Trees.{fold_broken}
use Rattle.soundness.proofs.Ends.{frames_append}
use Rattle.published.proofs.Names.{variable, read_grow}
use Rattle.machine.proofs.Locks.{in_held}
use Rattle.published.proofs.Steps.{thread_join, site_thread, Exact, published, give_step, make_step, spawn_step, lock_step, select_step, add_step, resume_step, last_grow}
use Rattle.published.proofs.Unplug.{outs, unplug, Redex, r_var, r_new, r_fork, r_lock, r_select, r_add, r_hole, tag, fill_tag, value_stuck, only_reduce, redex_active, determined}

-- So many silent moves, at places of this kind.
pub data Silently (s : Code) (lim : Places) (st : Stores) (above : List Frame) (on : Path → Type 0) : Tree → Tree → ℕ → Type 0 where
  at_once : {t : Tree} → Silently s lim st above on t t 0
  after : {t u v : Tree} {n : ℕ} (p : Path) → on p → move_at s (spare lim st t) st above t p ≡ moved st u → quiet_in s (part t p) ≡ true
      → Silently s lim st above on u v n → Silently s lim st above on t v (suc n)

-- The move at a place leads to this published configuration.
pub record Landed (s : Code) (lim : Places) (st : Stores) (above : List Frame) (t : Tree) (p : Path) (X : World) (T : PTree) : Type 0 where
  pub stores : Stores
  pub tree : Tree
  pub moves : move_at s (spare lim st t) st above t p ≡ moved stores tree
  pub worlds : world stores ≡ X
  pub reads : read s stores.bindings above tree ≡ T
  pub grows : Grows st stores
  pub loud : quiet_in s (part t p) ≡ false

-- After at most k silent moves near a place, the move at it leads there, or is stopped by a full store.
pub record Reached (s : Code) (lim : Places) (st : Stores) (above : List Frame) (t : Tree) (X : World) (T : PTree) (k : ℕ) (place : Path) : Type 0 where
  pub middle : Tree
  pub count : ℕ
  pub few : count ≤ k
  pub silently : Silently s lim st above (Near place) t middle count
  pub ends : ((j : Store) × (move_at s (spare lim st middle) st above middle place ≡ full j)) ⊎ Landed s lim st above middle place X T

module _ {s : Code} {lim : Places} {st : Stores} {above : List Frame} {X : World} {T : PTree} where
  first_silent : {t u : Tree} {k : ℕ} → move_at s (spare lim st t) st above t here ≡ moved st u → quiet_in s (part t here) ≡ true
      → Reached s lim st above u X T k here → Reached s lim st above t X T (suc k) here
  first_silent m e r = record { middle = r.middle; count = suc r.count; few = omega (arith, r.few); silently = after here itself m e r.silently; ends = r.ends }

  at_most : {t : Tree} {k : ℕ} {p : Path} (l : ℕ) → k ≤ l → Reached s lim st above t X T k p → Reached s lim st above t X T l p
  at_most l h r = record { middle = r.middle; count = r.count; few = omega (arith, r.few); silently = r.silently; ends = r.ends }

-- a thread at a redex
land : {s : Code} {w : Want} {Q : Type 0} (lim : Places) (st : Stores) (above : List Frame) (t : Tree) (L : List ℕ) (fs : List Frame) (a : PExpr)
    → Redex a → quiet_in s (part t here) ≡ false → read s st.bindings above t ≡ p_thread L (plug s st.bindings fs a) → (o : Outcome) → move_at s (spare lim st t) st above t here ≡ o
    → Judged s w st t Q o → Exact s st above t o → {X : World} {T : PTree}
    → (Q → ⊥) → Step s.program (world st) (read s st.bindings above t) X T → Reached s lim st above t X T 0 here
land lim st above t L fs a r q e still m (no_move z) x n h = absurd (n z)
land lim st above t L fs a r q e (full k) m j x n h = record { middle = t; count = 0; few = omega arith; silently = at_once; ends = inl (k, m) }
land {s} lim st above t L fs a r q e (moved su u) m (a_move f) (published k) {X} {T} n h =
    let i = unplug s st.bindings fs a (redex_active r) (rw e at h) in
    let j = unplug s st.bindings fs a (redex_active r) (rw e at k) in
    let d = determined (only_reduce r j.step) (only_reduce r i.step) in
    record {
      middle = t;
      count = 0;
      few = omega arith;
      silently = at_once;
      ends =
          inr
          (record {
            stores = su;
            tree = u;
            moves = m;
            worlds = d.0;
            reads = j.whole ∙ ap (outs s st.bindings fs) d.1 ∙ sym i.whole;
            grows = f.grows;
            loud = q;
          });
    }

-- a thread that waits has no step
no_lock : {p : Program} {W X : World} {L : List ℕ} {i : ℕ} {a : PExpr} {T : PTree} (o : ℕ) → entry_value W.vars i ≡ some (ref o) → shut_at W.heap o ≡ 1 → (o ∈ L → ⊥)
    → Reduce p W L (p_lock (fresh i) a) X T → ⊥
no_lock o v z n (DYN-EVAL-LOCK {W = W} {o = q} {y = y} h k l m) =
    let e : q ≡ o = cc in
    omega (arith, shut_at_object W.heap q y k, ap one_if l, ap (shut_at W.heap) e)
no_lock {L = L} o v z n (DYN-EVAL-LOCK-REENTRANT {o = q} h k l m) = let e : q ≡ o = cc in n (rw e at m)
no_lock o v z n (DYN-NPE-LOCK h) = let e : ◌≡◌ {A = ℕ} 0 1 = cc in omega arith

waits_stuck : (s : Code) {st : Stores} {above fs : List Frame} {e o : ℕ} (i : Point) {X : World} {T : PTree} → Waits s st above o (running i e fs)
    → Step s.program (world st) (p_thread (held (fs ++ above)) (plug s st.bindings fs (close (names st.bindings e) (build i s.expr (s.view i))))) X T → ⊥
waits_stuck s {st} {above} {fs} {e} {o} i (waits {a = a} {x = x} v k z q) p =
    let n = variable st.bindings e x k.binding k.there in
    let j = unplug s st.bindings fs (p_lock (fresh n.number) (said s st.bindings e a)) (redex_active r_lock) (rw (v, n.name) at p) in
    no_lock o (n.value ∙ ap some k.value) z (λ m. omega (arith, in_held o (fs ++ above) m, frames_append o fs above)) (only_reduce r_lock j.step)

node_expr : {s : Code} {start : ℕ} → AcceptedCode s start → (a : Point) → a < s.size → (n : Node) → s.view a ≡ n → s.expr a ≡ build a s.expr n
node_expr {s} acc a y n i = acc.built a y ∙ ap (build a s.expr) i

module _ {s : Code} {start : ℕ} {st : Stores} (ok : StoresOk s st) (acc : AcceptedCode s start) (lim : Places) (above : List Frame) {X : World} {T : PTree} where
  resume_reach : {w : Want} (fs : List Frame) (x : Value) (v : Want) → FramesOk s st.bindings w fs v → ValueFits s st.objects x v
      → ((o : ℕ) → lock_frames o above + lock_frames o fs ≤ shut_at st.objects o)
      → Step s.program (world st) (read s st.bindings above (returning x fs)) X T → Reached s lim st above (returning x fs) X T 0 here
  resume_reach [] x v r f d h = absurd (value_stuck x refl h)
  resume_reach (g ∷ fs) x v r f d h =
      land lim st above (returning x (g ∷ fs)) (held ((g ∷ fs) ++ above)) fs (fill (hole s st.bindings g) (p_value x)) (r_hole (hole s st.bindings g) x refl) refl refl _ refl
      (resume_good ok acc (spare lim st (returning x (g ∷ fs))) x (g ∷ fs) v r f (λ o. omega (arith, d o)))
      (resume_step ok acc (spare lim st (returning x (g ∷ fs))) above (g ∷ fs) x v r d) (λ e. no_cons e) h
    where
      no_cons : g ∷ fs ≡ [] → ⊥
      no_cons e = let z : ◌≡◌ {A = ℕ} 0 1 = cc in omega arith

  module _ {w : Want} (a : Point) (fs : List Frame) (e : ℕ) (v : Want) (r : FramesOk s st.bindings w fs v) (le : e ≤ length st.bindings) (y : a < s.size) where
    -- a thread at a node that is no silent move
    redex_reach : (n : Node) → s.view a ≡ n → ((q : Point) → q ∈ parts n → LaterPart s a q) → Gives s (context st.bindings e) (build a s.expr n) v
        → Redex (close (names st.bindings e) (build a s.expr n)) → quiet n ≡ false → Exact s st above (running a e fs) (run_node s (spare lim st (running a e fs)) st above fs e a n)
        → Step s.program (world st) (read s st.bindings above (running a e fs)) X T → Reached s lim st above (running a e fs) X T 0 here
    redex_reach n i u g x c z h =
        let b = node_expr acc a y n i in
        land lim st above (running a e fs) (held (fs ++ above)) fs (close (names st.bindings e) (build a s.expr n)) x (rw i c)
        (ap (λ (z : Expr). p_thread (held (fs ++ above)) (plug s st.bindings fs (close (names st.bindings e) z))) b)
        (run_node s (spare lim st (running a e fs)) st above fs e a n) (ap (run_node s (spare lim st (running a e fs)) st above fs e a) i)
        (run_good ok acc (spare lim st (running a e fs)) above fs a v r e le n y i u g) z (λ q. waits_stuck s a q.1 (rw (acc.built a y) at h)) h

    -- a part is run first
    descend_reach : (k : ℕ) (b : Point) (f : Frame) (n : Node) → s.view a ≡ n → quiet n ≡ true → run_node s (spare lim st (running a e fs)) st above fs e a n ≡ descend st fs e f b (spare lim st (running a e fs)).frames
        → close (names st.bindings e) (build a s.expr n) ≡ fill (hole s st.bindings f) (said s st.bindings e b) → held (f ∷ (fs ++ above)) ≡ held (fs ++ above)
        → (Step s.program (world st) (read s st.bindings above (running b e (f ∷ fs))) X T → Reached s lim st above (running b e (f ∷ fs)) X T k here)
        → Step s.program (world st) (read s st.bindings above (running a e fs)) X T → Reached s lim st above (running a e fs) X T (suc k) here
    descend_reach k b f n i c m q l rec h = go (spare lim st (running a e fs)).frames refl
      where
        same_reading : read s st.bindings above (running b e (f ∷ fs)) ≡ read s st.bindings above (running a e fs)
        same_reading = λ j. p_thread (l j) (plug s st.bindings fs (sym (ap (close (names st.bindings e)) (node_expr acc a y n i) ∙ q) j))

        go : (z : ℕ) → (spare lim st (running a e fs)).frames ≡ z → Reached s lim st above (running a e fs) X T (suc k) here
        go zero z =
            record {
              middle = running a e fs;
              count = 0;
              few = omega arith;
              silently = at_once;
              ends = inl (Frames, ap (run_node s (spare lim st (running a e fs)) st above fs e a) i ∙ m ∙ ap (descend st fs e f b) z);
            }
        go (suc k) z =
            first_silent (ap (run_node s (spare lim st (running a e fs)) st above fs e a) i ∙ m ∙ ap (descend st fs e f b) z) (rw i c) (rec (rw (← same_reading) at h))

    -- null or a constant becomes a value
    value_reach : (k : ℕ) (n : Node) (x : Value) → s.view a ≡ n → quiet n ≡ true
        → run_node s (spare lim st (running a e fs)) st above fs e a n ≡ moved st (returning x fs)
        → close (names st.bindings e) (build a s.expr n) ≡ p_value x → ValueFits s st.objects x v
        → ((o : ℕ) → lock_frames o above + lock_frames o fs ≤ shut_at st.objects o)
        → Step s.program (world st) (read s st.bindings above (running a e fs)) X T → Reached s lim st above (running a e fs) X T (suc k) here
    value_reach k n x i c m q f d h =
        first_silent (ap (run_node s (spare lim st (running a e fs)) st above fs e a) i ∙ m) (rw i c)
        (at_most k (omega arith) (resume_reach fs x v r f d (rw (ap (close (names st.bindings e)) (node_expr acc a y n i) ∙ q) at h)))

    node_reach : (k : ℕ) (n : Node) → s.view a ≡ n → ((q : Point) → q ∈ parts n → LaterPart s a q) → Gives s (context st.bindings e) (build a s.expr n) v
        → ((o : ℕ) → lock_frames o above + lock_frames o fs ≤ shut_at st.objects o)
        → ((b : Point) (f : Frame) (u : Want) → LaterPart s a b → FramesOk s st.bindings w (f ∷ fs) u → NodeGives s (context st.bindings e) b u → ((o : ℕ) → lock_frames o (f ∷ fs) ≡ lock_frames o fs)
        → Step s.program (world st) (read s st.bindings above (running b e (f ∷ fs))) X T → Reached s lim st above (running b e (f ∷ fs)) X T k here)
        → Step s.program (world st) (read s st.bindings above (running a e fs)) X T → Reached s lim st above (running a e fs) X T (suc k) here
    node_reach k n_null i t g d rec h = value_reach k n_null nil i refl refl refl (fits_nil (null_given g)) d h
    node_reach k (n_var x) i t (gives_type (BD-INFER-VAR z j) m) d rec h =
        at_most (suc k) (omega arith)
        (redex_reach (n_var x) i t (gives_type (BD-INFER-VAR z j) m) r_var refl (give_step ok acc (spare lim st (running a e fs)) above fs v r e a x _ (node_expr acc a y (n_var x) i) (type_in_lem j)) h)
    node_reach k (n_select x f) i t (gives_type (BD-INFER-SELECT (BD-INFER-VAR z j) p o) m) d rec h =
        at_most (suc k) (omega arith)
        (redex_reach (n_select x f) i t (gives_type (BD-INFER-SELECT (BD-INFER-VAR {n = a} z j) p o) m) r_select refl (select_step ok acc (spare lim st (running a e fs)) above fs v r e a x f _ _ (node_expr acc a y (n_select x f) i) (type_in_lem j) p) h)
    node_reach k (n_update x f b) i t (gives_type (BD-INFER-UPDATE {t = u} (BD-INFER-VAR z j) q p o) m) d rec h =
        descend_reach k b (awaits a e) (n_update x f b) i refl refl (rw i) refl
        (rec b (awaits a e) (upto u) (t b first) (a_node {t = u} y le (rw i (a_write j p m)) r) (record { node = (t b first).there; gives = check_gives q }) (λ o. refl)) h
    node_reach k (n_call x c b) i t (gives_type (BD-INFER-CALL {t₂ = u} (BD-INFER-VAR z j) q p o) m) d rec h =
        descend_reach k b (awaits a e) (n_call x c b) i refl refl (rw i) refl
        (rec b (awaits a e) (upto u) (t b first) (a_node {t = u} y le (rw i (a_call j p m)) r) (record { node = (t b first).there; gives = check_gives q }) (λ o. refl)) h
    node_reach k (n_bind x b c) i t g d rec h =
        let p = let_parts g in
        descend_reach k b (awaits a e) (n_bind x b c) i refl refl (rw i) refl
        (rec b (awaits a e) (upto p.0) (t b first) (a_node {t = p.0} y le (rw i (a_let p.1 p.2)) r) (record { node = (t b first).there; gives = infer_gives acc p.1 }) (λ o. refl)) h
    node_reach k (n_new c) i t g d rec h =
        at_most (suc k) (omega arith)
        (redex_reach (n_new c) i t g r_new refl (make_step ok acc (spare lim st (running a e fs)) above fs v r e a c (node_expr acc a y (n_new c) i) (spare lim st (running a e fs)).objects) h)
    node_reach k (n_cast n b) i t (gives_type (BD-INFER-CAST c) m) d rec h =
        descend_reach k b (casts a) (n_cast n b) i refl refl (rw i) refl
        (rec b (casts a) (upto n) (t b first) (a_cast y i m r) (record { node = (t b first).there; gives = check_gives c }) (λ o. refl)) h
    node_reach k (n_fork p q c) i t g d rec h =
        at_most (suc k) (omega arith)
        (redex_reach (n_fork p q c) i t g r_fork refl (spawn_step ok acc (spare lim st (running a e fs)) above fs v r e a p q c (node_expr acc a y (n_fork p q c) i) (spare lim st (running a e fs)).threads) h)
    node_reach k (n_lock x b) i t g d rec h =
        at_most (suc k) (omega arith)
        (redex_reach (n_lock x b) i t g r_lock refl (lock_step ok acc (spare lim st (running a e fs)) above fs v r e a x _ b (node_expr acc a y (n_lock x b) i) (type_in_lem (lock_parts g).1) d) h)
    node_reach k (n_constant z) i t (gives_type (BD-INFER-INT {t = u} c o) m) d rec h =
        value_reach k (n_constant z) (int z) i refl refl refl (fits_int (acc.constants a z i) (rw (declared_int s.program u o) at m)) d h
    node_reach k (n_add x z) i t (gives_type (BD-INFER-ADD (BD-INFER-VAR p j) (BD-INFER-VAR q l) o) m) d rec h =
        at_most (suc k) (omega arith)
        (redex_reach (n_add x z) i t (gives_type (BD-INFER-ADD (BD-INFER-VAR {n = a} p j) (BD-INFER-VAR {n = a} q l) o) m) r_add refl
        (add_step ok acc (spare lim st (running a e fs)) above fs v r e a x z _ _ (node_expr acc a y (n_add x z) i) (type_in_lem j) (type_in_lem l)) h)

  run_reach : {w : Want} (k : ℕ) (a : Point) (fs : List Frame) (e : ℕ) (v : Want) → s.size ≤ a + k → FramesOk s st.bindings w fs v → e ≤ length st.bindings
      → NodeGives s (context st.bindings e) a v → ((o : ℕ) → lock_frames o above + lock_frames o fs ≤ shut_at st.objects o)
      → Step s.program (world st) (read s st.bindings above (running a e fs)) X T → Reached s lim st above (running a e fs) X T k here
  run_reach zero a fs e v z r le g d h = absurd (omega (arith, g.node))
  run_reach (suc k) a fs e v z r le g d h =
      node_reach a fs e v r le g.node k (s.view a) refl (acc.in_order a g.node) (rw (acc.built a g.node) at g.gives) d
      (λ b f u i j l n m. run_reach k b (f ∷ fs) e u (omega (arith, i.after)) j le l (λ o. omega (arith, d o, n o)) m) h

-- What a part of a tree may take, where the rest has these numbers of frames and threads.
share : Places → ℕ → ℕ → Places
share lim f t = record { objects = lim.objects; bindings = lim.bindings; frames = lim.frames - f; threads = lim.threads - t }

module _ (lim : Places) (st : Stores) (fs : List Frame) (a : Point) (e : ℕ) (l r : Tree) where
  spare_left : spare lim st (join fs a e l r) ≡ spare (share lim (length fs + frame_count r) (thread_count r)) st l
  unfolding share
  spare_left =
      let p : lim.frames - (length fs + frame_count l + frame_count r) ≡ (lim.frames - (length fs + frame_count r)) - frame_count l = omega arith in
      let q : lim.threads - (thread_count l + thread_count r) ≡ (lim.threads - thread_count r) - thread_count l = omega arith in
      λ i. record { objects = lim.objects - length st.objects; bindings = lim.bindings - length st.bindings; frames = p i; threads = q i }

  spare_right : spare lim st (join fs a e l r) ≡ spare (share lim (length fs + frame_count l) (thread_count l)) st r
  unfolding share
  spare_right =
      let p : lim.frames - (length fs + frame_count l + frame_count r) ≡ (lim.frames - (length fs + frame_count l)) - frame_count r = omega arith in
      let q : lim.threads - (thread_count l + thread_count r) ≡ (lim.threads - thread_count l) - thread_count r = omega arith in
      λ i. record { objects = lim.objects - length st.objects; bindings = lim.bindings - length st.bindings; frames = p i; threads = q i }

  left_outcome : (s : Code) (above : List Frame) (p : Path) (o : Outcome)
      → move_at s (spare (share lim (length fs + frame_count r) (thread_count r)) st l) st (fs ++ above) l p ≡ o
      → move_at s (spare lim st (join fs a e l r)) st above (join fs a e l r) (left p) ≡ in_left_tree fs a e r o
  left_outcome s above p o h = ap (λ (z : Places). in_left_tree fs a e r (move_at s z st (fs ++ above) l p)) spare_left ∙ ap (in_left_tree fs a e r) h

  right_outcome : (s : Code) (above : List Frame) (p : Path) (o : Outcome)
      → move_at s (spare (share lim (length fs + frame_count l) (thread_count l)) st r) st [] r p ≡ o
      → move_at s (spare lim st (join fs a e l r)) st above (join fs a e l r) (right p) ≡ in_right_tree fs a e l o
  right_outcome s above p o h = ap (λ (z : Places). in_right_tree fs a e l (move_at s z st [] r p)) spare_right ∙ ap (in_right_tree fs a e l) h

-- moves of a part of a join
module _ {s : Code} {lim : Places} {st : Stores} (above fs : List Frame) (a : Point) (e : ℕ) where
  silently_left : {on to : Path → Type 0} (r : Tree) {l m : Tree} {n : ℕ} → ((p : Path) → on p → to (left p))
      → Silently s (share lim (length fs + frame_count r) (thread_count r)) st (fs ++ above) on l m n → Silently s lim st above to (join fs a e l r) (join fs a e m r) n
  silently_left r f at_once = at_once
  silently_left r f (after {t = l} p o h k q) =
      after (left p) (f p o) (left_outcome lim st fs a e l r s above p _ h) k (silently_left r f q)

  silently_right : {on to : Path → Type 0} (l : Tree) {r m : Tree} {n : ℕ} → ((p : Path) → on p → to (right p))
      → Silently s (share lim (length fs + frame_count l) (thread_count l)) st [] on r m n → Silently s lim st above to (join fs a e l r) (join fs a e l m) n
  silently_right l f at_once = at_once
  silently_right l f (after {t = r} p o h k q) =
      after (right p) (f p o) (right_outcome lim st fs a e l r s above p _ h) k (silently_right l f q)

silently_then : {s : Code} {lim : Places} {st : Stores} {above : List Frame} {on : Path → Type 0} {t u v : Tree} {m n : ℕ} → Silently s lim st above on t u m → Silently s lim st above on u v n
    → (k : ℕ) × (k ≡ m + n) × Silently s lim st above on t v k
silently_then {n = n} at_once q = (n, omega arith, q)
silently_then (after p o h k r) q = let x = silently_then r q in (suc x.0, omega (arith, x.1), after p o h k x.2)

-- a tree that reads as a finished thread comes to be one silently
plug_value : (s : Code) (bs : List Binding) (fs : List Frame) (a : PExpr) (v : Value) → plug s bs fs a ≡ p_value v → (fs ≡ []) × (a ≡ p_value v)
plug_value s bs [] a v h = (refl, h)
plug_value s bs (f ∷ fs) a v h =
    let q = plug_value s bs fs (fill (hole s bs f) a) v h in
    absurd (omega (arith, ap tag q.1, fill_tag (hole s bs f) a))

-- the nodes whose expression is a value
data ValueNode : Node → Type 0 where
  is_null_lem : ValueNode n_null
  is_constant : {z : ℤ} → ValueNode (n_constant z)

value_other : {a : PExpr} {v : Value} → a ≡ p_value v → 1 ≤ tag a → ⊥
value_other h n = omega (arith, ap tag h)

value_node : (m : ℕ → PVar) (n : Point) (f : Point → Expr) (x : Node) (v : Value) → close m (build n f x) ≡ p_value v → ValueNode x
value_node m n f n_null v h = is_null_lem
value_node m n f (n_var x) v h = absurd (value_other h (omega arith))
value_node m n f (n_select x g) v h = absurd (value_other h (omega arith))
value_node m n f (n_update x g p) v h = absurd (value_other h (omega arith))
value_node m n f (n_call x g p) v h = absurd (value_other h (omega arith))
value_node m n f (n_bind x p q) v h = absurd (value_other h (omega arith))
value_node m n f (n_new c) v h = absurd (value_other h (omega arith))
value_node m n f (n_cast t p) v h = absurd (value_other h (omega arith))
value_node m n f (n_fork p q r) v h = absurd (value_other h (omega arith))
value_node m n f (n_lock x p) v h = absurd (value_other h (omega arith))
value_node m n f (n_constant z) v h = is_constant
value_node m n f (n_add x y) v h = absurd (value_other h (omega arith))

record Ready (s : Code) (lim : Places) (st : Stores) (above : List Frame) (t : Tree) (L : List ℕ) : Type 0 where
  value : Value
  count : ℕ
  few : count ≤ 1
  silently : Silently s lim st above (λ p. p ≡ here) t (returning value []) count
  locks : L ≡ held above

module _ {s : Code} {lim : Places} {st : Stores} {above : List Frame} {L : List ℕ} (a : Point) (e : ℕ) (fs : List Frame)
    (h : L ≡ held (fs ++ above)) (p : fs ≡ []) where
  ready_value : (n : Node) (v : Value) → s.view a ≡ n → quiet n ≡ true
      → run_node s (spare lim st (running a e [])) st above [] e a n ≡ moved st (returning v [])
      → Ready s lim st above (running a e fs) L
  ready_value n v i c m =
      record {
        value = v;
        count = 1;
        few = omega arith;
        silently =
            rw p
            (after {t = running a e []} {u = returning v []} here refl (ap (run_node s (spare lim st (running a e [])) st above [] e a) i ∙ m) (rw i c) at_once);
        locks = h ∙ ap (λ (z : List Frame). held (z ++ above)) p;
      }

  ready_running : (n : Node) → s.view a ≡ n → ValueNode n → Ready s lim st above (running a e fs) L
  ready_running n_null i is_null_lem = ready_value n_null nil i refl refl
  ready_running (n_constant z) i is_constant = ready_value (n_constant z) (int z) i refl refl
  ready_running (n_var _) i h' = elim h' [ ]
  ready_running (n_select _ _) i h' = elim h' [ ]
  ready_running (n_update _ _ _) i h' = elim h' [ ]
  ready_running (n_call _ _ _) i h' = elim h' [ ]
  ready_running (n_bind _ _ _) i h' = elim h' [ ]
  ready_running (n_new _) i h' = elim h' [ ]
  ready_running (n_cast _ _) i h' = elim h' [ ]
  ready_running (n_fork _ _ _) i h' = elim h' [ ]
  ready_running (n_lock _ _) i h' = elim h' [ ]
  ready_running (n_add _ _) i h' = elim h' [ ]

ready : {s : Code} {start : ℕ} {lim : Places} {st : Stores} {w : Want} → AcceptedCode s start → (above : List Frame) (t : Tree) (L : List ℕ) (v : Value) → TreeOk s st w t
    → p_thread L (p_value v) ≡ read s st.bindings above t → Ready s lim st above t L
ready {s} {st = st} acc above (running a e fs) L v (running_ok le g r) h =
    let k : plug s st.bindings fs (said s st.bindings e a) ≡ p_value v = cc in
    let q = plug_value s st.bindings fs (said s st.bindings e a) v k in
    let n = value_node (names st.bindings e) a s.expr (s.view a) v (rw (acc.built a g.node) at q.1) in
    ready_running a e fs (cc) q.0 (s.view a) refl n
ready {s} {st = st} acc above (returning x fs) L v ok h =
    let k : plug s st.bindings fs (p_value x) ≡ p_value v = cc in
    let q = plug_value s st.bindings fs (p_value x) v k in
    let i : L ≡ held (fs ++ above) = cc in
    record { value = x; count = 0; few = omega arith; silently = rw q.0 at_once; locks = i ∙ ap (λ (z : List Frame). held (z ++ above)) q.0 }
ready acc above failed L v ok h = absurd (let z : ◌≡◌ {A = ℕ} 0 1 = cc in omega arith)
ready acc above (join fs a e l r) L v ok h = absurd (let z : ◌≡◌ {A = ℕ} 0 1 = cc in omega arith)

-- a failed tree has no step
failed_stuck : {p : Program} {W X : World} {T : PTree} → Step p W p_failed X T → ⊥
failed_stuck h = elim h [ ]

join_parts : {P Q R U : PTree} {a b : PExpr} → p_join P Q a ≡ p_join R U b → (P ≡ R) × (Q ≡ U) × (a ≡ b)
join_parts h = (cc, cc, cc)

read_failed : (s : Code) (bs : List Binding) (above : List Frame) (t : Tree) → p_failed ≡ read s bs above t → t ≡ failed
read_failed s bs above (running a e fs) h = cc
read_failed s bs above (returning x fs) h = cc
read_failed s bs above failed h = refl
read_failed s bs above (join fs a e l r) h = cc

module _ {s : Code} {start : ℕ} {w v : Want} {st : Stores} (acc : AcceptedCode s start) (lim : Places) (above fs : List Frame) (a : Point) (e : ℕ) (l r : Tree)
    (le : e ≤ length st.bindings) (k : FramesOk s st.bindings w fs v) (x : TreeOk s st any l) (y : TreeOk s st any r) where
  last_part : PExpr
  last_part = plug s st.bindings fs (said s st.bindings e a)

  left_reach : {X : World} {T : PTree} {k : ℕ} {p : Path} → Reached s (share lim (length fs + frame_count r) (thread_count r)) st (fs ++ above) l X T k p
      → Reached s lim st above (join fs a e l r) X (p_join T (read s st.bindings [] r) last_part) k (left p)
  unfolding last_part
  left_reach {p = p} q =
      record {
        middle = join fs a e q.middle r;
        count = q.count;
        few = q.few;
        silently = silently_left above fs a e r (λ o n. in_left n) q.silently;
        ends =
            ⊎_elim (λ h. inl (h.0, left_outcome lim st fs a e q.middle r s above p _ h.1))
            (λ h.
            inr
            (record {
              stores = h.stores;
              tree = join fs a e h.tree r;
              moves = left_outcome lim st fs a e q.middle r s above p _ h.moves;
              worlds = h.worlds;
              reads = λ i. p_join (h.reads i) (read_grow h.grows [] y i) (last_grow above fs a e l r le k h.grows i);
              grows = h.grows;
              loud = h.loud;
            }))
            q.ends;
      }

  right_reach : {X : World} {T : PTree} {k : ℕ} {p : Path} → Reached s (share lim (length fs + frame_count l) (thread_count l)) st [] r X T k p
      → Reached s lim st above (join fs a e l r) X (p_join (read s st.bindings (fs ++ above) l) T last_part) k (right p)
  unfolding last_part
  right_reach {p = p} q =
      record {
        middle = join fs a e l q.middle;
        count = q.count;
        few = q.few;
        silently = silently_right above fs a e l (λ o n. in_right n) q.silently;
        ends =
            ⊎_elim (λ h. inl (h.0, right_outcome lim st fs a e l q.middle s above p _ h.1))
            (λ h.
            inr
            (record {
              stores = h.stores;
              tree = join fs a e l h.tree;
              moves = right_outcome lim st fs a e l q.middle s above p _ h.moves;
              worlds = h.worlds;
              reads = λ i. p_join (read_grow h.grows (fs ++ above) x i) (h.reads i) (last_grow above fs a e l r le k h.grows i);
              grows = h.grows;
              loud = h.loud;
            }))
            q.ends;
      }

  finish_reach : (L M : List ℕ) (p q : Value) → p_thread L (p_value p) ≡ read s st.bindings (fs ++ above) l → p_thread M (p_value q) ≡ read s st.bindings [] r
      → Reached s lim st above (join fs a e l r) (world st) (p_thread L last_part) 2 here
  unfolding last_part
  finish_reach L M p q h j =
      let i = ready {s = s} {lim = share lim (length fs + frame_count r) (thread_count r)} {st = st} acc (fs ++ above) l L p x h in
      let m = ready {s = s} {lim = share lim (length fs + 0) 1} {st = st} acc [] r M q y j in
      let n = silently_then {on = Near here} (silently_left above fs a e r (λ o (h : o ≡ here). rw h left_side) i.silently) (silently_right above fs a e (returning i.value []) (λ o (h : o ≡ here). rw h right_side) m.silently) in
      record {
        middle = join fs a e (returning i.value []) (returning m.value []);
        count = n.0;
        few = omega (arith, n.1, i.few, m.few);
        silently = n.2;
        ends =
            inr
            (record {
              stores = st;
              tree = running a e fs;
              moves = refl;
              worlds = refl;
              reads = ap (λ (z : List ℕ). p_thread z (plug s st.bindings fs (said s st.bindings e a))) (sym i.locks);
              grows = grows_same st;
              loud = refl;
            });
      }

  fail_reach : move_at s (spare lim st (join fs a e l r)) st above (join fs a e l r) here ≡ moved st failed → Reached s lim st above (join fs a e l r) (world st) p_failed 0 here
  fail_reach h =
      record {
        middle = join fs a e l r;
        count = 0;
        few = omega arith;
        silently = at_once;
        ends = inr (record { stores = st; tree = failed; moves = h; worlds = refl; reads = refl; grows = grows_same st; loud = refl });
      }

  join_reach : {P : PTree} {X : World} {T : PTree} (k : ℕ) → 2 ≤ k → (h : Step s.program (world st) P X T) → P ≡ p_join (read s st.bindings (fs ++ above) l) (read s st.bindings [] r) last_part
      → ((Q : PTree) → Q ≡ read s st.bindings (fs ++ above) l → (Y : World) (U : PTree) (i : Step s.program (world st) Q Y U)
      → Reached s (share lim (length fs + frame_count r) (thread_count r)) st (fs ++ above) l Y U k (site i))
      → ((Q : PTree) → Q ≡ read s st.bindings [] r → (Y : World) (U : PTree) (i : Step s.program (world st) Q Y U)
      → Reached s (share lim (length fs + frame_count l) (thread_count l)) st [] r Y U k (site i)) → Reached s lim st above (join fs a e l r) X T k (site h)
  join_reach k m (reduces h) p f g = absurd (thread_join p)
  join_reach k m (DYN-EVAL-CONTEXT E c h) p f g = absurd (thread_join p)
  join_reach k m (DYN-EVAL-SPAWN-CONTEXT E c h) p f g = absurd (thread_join p)
  join_reach k m (DYN-EXCEPTION-CONTEXT E c h) p f g = absurd (thread_join p)
  join_reach k m (DYN-EVAL-ASYNC-LEFT {X = X} {T = T} {U = U} h) p f g = let i = join_parts p in rw (i.1, i.2) (left_reach (f T i.0 X U h))
  join_reach k m (DYN-EVAL-ASYNC-RIGHT {X = X} {T = T} {U = U} h) p f g = let i = join_parts p in rw (i.0, i.2) (right_reach (g T i.1 X U h))
  join_reach k m (DYN-EVAL-ASYNC-JOIN {L = L} {M = M} {v = v} {w = w}) p f g = let i = join_parts p in rw i.2 (at_most k m (finish_reach L M v w i.0 i.1))
  join_reach k m DYN-EXCEPTION-ASYNC-LEFT p f g = at_most k (omega arith) (fail_reach (rw (read_failed s st.bindings (fs ++ above) l (join_parts p).0)))
  join_reach k m DYN-EXCEPTION-ASYNC-RIGHT p f g =
      at_most k (omega arith) (fail_reach (rw (read_failed s st.bindings [] r (join_parts p).1) (fold_broken st fs a e (phase l))))

pub reach : {s : Code} {start : ℕ} {w : Want} {st : Stores} (acc : AcceptedCode s start) (lim : Places) (above : List Frame) (t : Tree) → StoresOk s st → TreeOk s st w t
    → ((o : ℕ) → lock_frames o above + lock_count o t ≤ shut_at st.objects o) → (P : PTree) → P ≡ read s st.bindings above t → (X : World) (T : PTree)
    → (h : Step s.program (world st) P X T) → Reached s lim st above t X T (suc s.size) (site h)
unfolding last_part
reach {s} acc lim above (running a e fs) ok (running_ok le g r) d P p X T h =
    rw (site_thread p h) (run_reach ok acc lim above (suc s.size) a fs e _ (omega arith) r le g d (rw p at h))
reach {s} acc lim above (returning x fs) ok (returning_ok f r) d P p X T h =
    rw (site_thread p h) (at_most (suc s.size) (omega arith) (resume_reach ok acc lim above fs x _ r f d (rw p at h)))
reach acc lim above failed ok x d P p X T h = absurd (failed_stuck (rw p at h))
reach {s} {st = st} acc lim above (join fs a e l r) ok (join_ok le g k x y) d P p X T h =
    join_reach acc lim above fs a e l r le k x y (suc s.size) (omega (arith, acc.a_node)) h p
    (reach acc (share lim (length fs + frame_count r) (thread_count r)) (fs ++ above) l ok x (λ o. omega (arith, d o, frames_append o fs above)))
    (reach acc (share lim (length fs + frame_count l) (thread_count l)) [] r ok y (λ o. omega (arith, d o)))
