-- A move meets a full store exactly where it needs more places than that store has left.
use Prim.Native.Nat.{ℕ, zero, suc, ◌<◌}
use native.Mathlib.Omega.{arith}
use mathlib.Core.Path.{◌≡◌, refl, ◌∙◌, ap}
use mathlib.Core.Bool.{true, false}
use mathlib.Core.List.{List, [], ◌∷◌, ◌++◌}
use mathlib.Core.Logic.{◌↔◌}
use mathlib.Core.Option.{Option, none, some}
use Rattle.script.specs.Syntax.{Point, Node, n_null, n_var, n_select, n_update, n_call, n_bind, n_new, n_cast, n_fork, n_lock, n_constant, n_add, Method}
use Rattle.std.specs.declared.result.Result.TheVariants.{Ok}
use Rattle.typing.specs.Typing.{inferred}
use Rattle.machine.specs.declared.Store.{Store}
use Rattle.machine.specs.declared.Store.TheVariants.{Bindings, Frames}
use Rattle.machine.specs.declared.Stop.TheVariants.{Spent, Full}
use Rattle.machine.specs.declared.Value.{Value}
use Rattle.machine.specs.declared.Frame.{Frame}
use Rattle.machine.specs.Config.{Code, Object, Stores, Tree, Config}
use Rattle.machine.specs.Machine.{context, object, Places, spare, full, lock_object, call_method, run_node, in_left_tree, in_right_tree, Path, here, move_at, move, locate, chosen, choice, At, at_root, at_left, at_right}
use Rattle.typing.proofs.Environments.{type_in_lem}
use Rattle.machine.specs.declared.Want.{Want}
use Rattle.machine.specs.WellFormed.{StoresOk, Awaits, a_let, a_call, a_node, TreeOk, returning_ok, join_ok, WfConfig, WellFormed}
use Rattle.machine.specs.Accepted.{AcceptedCode}
use Rattle.machine.specs.Silent.{descends}
use Rattle.machine.specs.Asks.{TargetObject}
use Rattle.machine.specs.FullStore.{Short, no_object, no_binding, no_two, no_frame, no_lock, no_thread, ShortAt, StopsShort}
use Rattle.machine.specs.Runs.{Report, report, LastFull, onto}
use Rattle.machine.proofs.Types.{below_method, infer_computes, Defined, defined}
use Rattle.soundness.proofs.Asks.{target_below}
use Rattle.soundness.proofs.Places.{part_at}
use Rattle.soundness.proofs.Outcomes.{why, Made, made_full, made}
use Rattle.soundness.proofs.Run.{last_full, full_report, full_last, run_leaves, run_more}

module _ (s : Code) (room : Places) (st : Stores) where
  short_there : {t : Tree} {p : Path} {k : Store} → Made s room st t p (full k) → ShortAt s room st t p k
  short_there (made_full above u h m) = record { tree = u; there = h; short = rw m at (why s room st above u) }

-- and the other way round
module _ {s : Code} {start : ℕ} (acc : AcceptedCode s start) (room : Places) (st : Stores) (ok : StoresOk s st) where
  descend_stops : (above fs : List Frame) (e : ℕ) (p : Point) (n : Node) → descends n ≡ true → room.frames ≡ 0 → run_node s room st above fs e p n ≡ full Frames
  descend_stops above fs e p n_null d z = absurd (let z : ◌≡◌ {A = ℕ} 0 1 = cc in omega arith)
  descend_stops above fs e p (n_var x) d z = absurd (let z : ◌≡◌ {A = ℕ} 0 1 = cc in omega arith)
  descend_stops above fs e p (n_select x f) d z = absurd (let z : ◌≡◌ {A = ℕ} 0 1 = cc in omega arith)
  descend_stops above fs e p (n_update x f a) d z = rw z
  descend_stops above fs e p (n_call x m a) d z = rw z
  descend_stops above fs e p (n_bind x a b) d z = rw z
  descend_stops above fs e p (n_new c) d z = absurd (let z : ◌≡◌ {A = ℕ} 0 1 = cc in omega arith)
  descend_stops above fs e p (n_cast t a) d z = rw z
  descend_stops above fs e p (n_fork a b c) d z = absurd (let z : ◌≡◌ {A = ℕ} 0 1 = cc in omega arith)
  descend_stops above fs e p (n_lock x a) d z = absurd (let z : ◌≡◌ {A = ℕ} 0 1 = cc in omega arith)
  descend_stops above fs e p (n_constant i) d z = absurd (let z : ◌≡◌ {A = ℕ} 0 1 = cc in omega arith)
  descend_stops above fs e p (n_add x y) d z = absurd (let z : ◌≡◌ {A = ℕ} 0 1 = cc in omega arith)

  let_typed : (e : ℕ) {x t : ℕ} {a b : Point} {v : Want} → Awaits s (context st.bindings e) (n_bind x a b) t v → inferred s.program (context st.bindings e) (s.expr a) ≡ Ok t
  let_typed e (a_let h k) = infer_computes acc h

  call_defined : {e x m t : ℕ} {a : Point} {v : Want} {y : Object} → Awaits s (context st.bindings e) (n_call x m a) t v → TargetObject st e x y → (u : ℕ) × Defined s y.class (record { name = m; param = t; result = u })
  call_defined {e} {x} {y = y} (a_call {c = c} h i m) g = (_, defined acc (ok.heap g.number y g.object).class (below_method acc (target_below acc ok e x c (type_in_lem h) g) i))

  method_stops : (fs : List Frame) (v : Value) (o c : ℕ) (d : Method) (k : ℕ) → k < 2 → call_method st fs v o c (some d) k ≡ full Bindings
  method_stops fs v o c d zero h = refl
  method_stops fs v o c d (suc zero) h = refl
  method_stops fs v o c d (suc (suc k)) h = absurd (omega arith)

  lock_stops : (above fs : List Frame) (a : Point) (e o : ℕ) (y : Object) → y.shut ≡ false → room.frames ≡ 0 → lock_object st above fs a e room.frames o (some y) ≡ full Frames
  lock_stops above fs a e o y h z = rw (h, z)

  short_stops : {w : Want} {t : Tree} {k : Store} (above : List Frame) → TreeOk s st w t → Short s room st t k → move_at s room st above t here ≡ full k
  short_stops above x (no_object i z) = let q : room.objects ≡ 0 = omega arith in rw (i, q)
  short_stops above (returning_ok f (a_node l le h r)) (no_binding {e = e} i z) =
      let q : room.bindings ≡ 0 = omega arith in
      rw (i, let_typed e (rw i at h), q)
  short_stops above (returning_ok f (a_node l le h r)) (no_two {v = v} {fs = fs} {y = y} i g z) =
      let d = (call_defined (rw i at h) g).1 in
      rw (i, g.holds.there, g.holds.value, g.object, d.there) (method_stops fs v g.number y.class d.method room.bindings z)
  short_stops above x (no_frame {a = a} {e = e} {fs = fs} d z) = descend_stops above fs e a (s.view a) d (omega arith)
  short_stops above x (no_lock {b = b} {e = e} {fs = fs} {y = y} i g d z) = rw (i, g.holds.there, g.holds.value, g.object) (lock_stops above fs b e g.number y d (omega arith))
  short_stops above x (no_thread i z) = let q : room.threads ≡ 0 = omega arith in rw (i, q)

  short_moves : {w : Want} {above handed : List Frame} {t u : Tree} {p : Path} {k : Store} → At above t p handed u → TreeOk s st w t → Short s room st u k → move_at s room st above t p ≡ full k
  short_moves {above = above} at_root x h = short_stops above x h
  short_moves (at_left {fs = fs} {a = a} {e = e} {r = r} i) (join_ok le g f x y) h = ap (in_left_tree fs a e r) (short_moves i x h)
  short_moves (at_right {fs = fs} {a = a} {e = e} {l = l} i) (join_ok le g f x y) h = ap (in_right_tree fs a e l) (short_moves i y h)

-- A choice meets a full store exactly where the move due at its place needs more places than that store has left.
pub full_exactly : {s : Code} {start : ℕ} (acc : AcceptedCode s start) (lim : Places) {w : Want} {c : Config} → WfConfig s w c → (p : Path) (k : Store)
    → (move s lim c p ≡ full k) ↔ ShortAt s (spare lim c.stores c.tree) c.stores c.tree p k
unfolding move
full_exactly {s} acc lim {c = c} h p k =
    let room = spare lim c.stores c.tree in (
      λ e. short_there s room c.stores (rw e at (made s room c.stores [] c.tree p)),
      λ x. short_moves acc room c.stores h.stores (part_at [] c.tree p x.there).1 h.tree x.short,
    )

-- A run stops with a full store exactly where the last choice read names a place whose move due needs more than is left.
module _ {s : Code} {start : ℕ} (acc : AcceptedCode s start) (lim : Places) where
  pub stop_short : (ns : List ℕ) (c : Config) {k : Store} → WellFormed s lim start c → (report s lim c ns).stop ≡ Full k → StopsShort s lim c ns (report s lim c ns) k
  unfolding choice
  stop_short ns c {k} h z = go (locate (report s lim c ns).config.tree x.last) refl (rw (ap (λ (r : Report). r.config) (full_last s lim x)) x.met)
    where
      x : LastFull s lim c ns (report s lim c ns) k
      x = last_full s lim ns c z

      go : (q : Option Path) → locate (report s lim c ns).config.tree (last_full s lim ns c z).last ≡ q → chosen s lim (report s lim c ns).config q ≡ full k → StopsShort s lim c ns (report s lim c ns) k
      go none i e = absurd (let z : ◌≡◌ {A = ℕ} 0 1 = cc in omega arith)
      go (some p) i e = record { last = last_full s lim ns c z; place = p; there = i; short = (full_exactly acc lim (run_leaves acc lim ns c h).formed.formed p k).0 e }

  pub short_stop : (before after : List ℕ) (last : ℕ) (k : Store) (c : Config) (p : Path) → WellFormed s lim start c → (report s lim c before).stop ≡ Spent → locate (report s lim c before).config.tree last ≡ some p
      → ShortAt s (spare lim (report s lim c before).config.stores (report s lim c before).config.tree) (report s lim c before).config.stores (report s lim c before).config.tree p k
      → (report s lim c (before ++ (last ∷ after))).stop ≡ Full k
  unfolding choice
  short_stop before after last k c p h z i x =
      let d = (report s lim c before).config in
      let e : move s lim d p ≡ full k = (full_exactly acc lim (run_leaves acc lim before c h).formed.formed p k).1 x in
      ap (λ (r : Report). r.stop) (run_more s lim before (last ∷ after) c z ∙ ap (λ (q : Report). onto (report s lim c before) q) (full_report s lim last after d k (ap (chosen s lim d) i ∙ e)))
