-- A move at any place of a tree, and of a configuration.
use Prim.Native.Nat.{ℕ, ◌≤◌}
use native.Mathlib.Omega.{arith}
use mathlib.Core.Path.{◌≡◌, refl}
use mathlib.Core.List.{List, [], ◌∷◌, ◌++◌}
use lib.ListN.{length}
use Rattle.script.specs.Syntax.{Point}
use Rattle.machine.specs.declared.Frame.{Frame}
use Rattle.machine.specs.Config.{Code, Stores, Tree, running, returning, failed, join, Config}
use Rattle.machine.specs.Machine.{context, Places, Outcome, spare, moved, Phase, finished, broken, busy, phase, fold, in_left_tree, in_right_tree, Path, here, left, right, move_at, move}
use Rattle.machine.specs.declared.Want.{Want}
use Rattle.machine.specs.declared.Want.TheVariants.{Any as any}
use Rattle.machine.specs.WellFormed.{NodeGives, StoresOk, FramesOk, TreeOk, running_ok, returning_ok, join_ok, lock_count, failures, shut_at, WfConfig}
use Rattle.machine.specs.Accepted.{AcceptedCode}
use Rattle.soundness.proofs.Grow.{Grows, at_grows, frames_grow, tree_grows}
use Rattle.soundness.proofs.Move.{Judged, no_move, no_room, a_move, kept, fails, run_good, resume_good}

-- no matter why there is no move
forget : {s : Code} {w : Want} {st : Stores} {t : Tree} {Q : Type 0} {o : Outcome} → Judged s w st t Q o → Judged s w st t (Unit {0}) o
forget (no_move q) = no_move tt
forget no_room = no_room
forget (a_move f) = a_move f

-- a finished thread has no lock frame
pub finished_locks : (t : Tree) → phase t ≡ finished → (o : ℕ) → lock_count o t ≡ 0
finished_locks (running a e fs) h o = cc
finished_locks (returning v []) h o = refl
finished_locks (returning v (f ∷ fs)) h o = cc
finished_locks failed h o = cc
finished_locks (join fs a e l r) h o = cc

pub fold_broken : (st : Stores) (fs : List Frame) (a : Point) (e : ℕ) (q : Phase) → fold st fs a e q broken ≡ moved st failed
fold_broken st fs a e finished = refl
fold_broken st fs a e broken = refl
fold_broken st fs a e busy = refl

pub is_broken : (t : Tree) → phase t ≡ broken → t ≡ failed
is_broken (running a e fs) h = cc
is_broken (returning v []) h = cc
is_broken (returning v (f ∷ fs)) h = cc
is_broken failed h = refl
is_broken (join fs a e l r) h = cc

finished_whole : (t : Tree) → phase t ≡ finished → failures t ≡ 0
finished_whole (running a e fs) h = cc
finished_whole (returning v []) h = refl
finished_whole (returning v (f ∷ fs)) h = cc
finished_whole failed h = cc
finished_whole (join fs a e l r) h = cc

module _ {s : Code} {w : Want} {st : Stores} (fs : List Frame) (a : Point) (e : ℕ) (l r : Tree) where
  fold_good : StoresOk s st → TreeOk s st w (running a e fs) → (p q : Phase) → phase l ≡ p → phase r ≡ q
      → Judged s w st (join fs a e l r) (Unit {0}) (fold st fs a e p q)
  fold_good ok k finished finished x y =
      a_move
      (kept ok _ _ k (omega (arith, finished_whole l x, finished_whole r y)) (λ o. omega (arith, finished_locks l x o, finished_locks r y o)))
  fold_good ok k finished broken x y = a_move (fails ok _)
  fold_good ok k finished busy x y = no_move tt
  fold_good ok k broken q x y = a_move (fails ok _)
  fold_good ok k busy finished x y = no_move tt
  fold_good ok k busy broken x y = a_move (fails ok _)
  fold_good ok k busy busy x y = no_move tt

  module _ {v : Want} (le : e ≤ length st.bindings) (p : NodeGives s (context st.bindings e) a v) (k : FramesOk s st.bindings w fs v) where
    left_good : TreeOk s st any r → {o : Outcome} → Judged s any st l (Unit {0}) o → Judged s w st (join fs a e l r) (Unit {0}) (in_left_tree fs a e r o)
    left_good y (no_move q) = no_move tt
    left_good y no_room = no_room
    left_good y (a_move {su = su} {u = u} f) =
        let g = f.grows in
        a_move
        (record {
          grows = g;
          stores = f.stores;
          tree = join_ok {e = e} (omega (arith, g.more)) (at_grows g e le p) (frames_grow g k) f.tree (tree_grows g y);
          fewer = λ o. omega (arith, f.fewer o);
          whole = λ z. (omega (arith, (f.whole (omega arith)).0), λ o. omega (arith, (f.whole (omega arith)).1 o));
        })

    right_good : TreeOk s st any l → {o : Outcome} → Judged s any st r (Unit {0}) o → Judged s w st (join fs a e l r) (Unit {0}) (in_right_tree fs a e l o)
    right_good x (no_move q) = no_move tt
    right_good x no_room = no_room
    right_good x (a_move {su = su} {u = u} f) =
        let g = f.grows in
        a_move
        (record {
          grows = g;
          stores = f.stores;
          tree = join_ok {e = e} (omega (arith, g.more)) (at_grows g e le p) (frames_grow g k) (tree_grows g x) f.tree;
          fewer = λ o. omega (arith, f.fewer o);
          whole = λ z. (omega (arith, (f.whole (omega arith)).0), λ o. omega (arith, (f.whole (omega arith)).1 o));
        })

pub move_good : {s : Code} {w : Want} {st : Stores} {start : ℕ} (acc : AcceptedCode s start) (room : Places) (above : List Frame) (t : Tree) (p : Path)
    → StoresOk s st → TreeOk s st w t → ((o : ℕ) → lock_count o t ≤ shut_at st.objects o)
    → Judged s w st t (Unit {0}) (move_at s room st above t p)
move_good {s} acc room above (running a e fs) here ok (running_ok le g r) k = forget (run_good ok acc room above fs a _ r e le (s.view a) g.node refl (acc.in_order a g.node) (rw (acc.built a g.node) at g.gives))
move_good acc room above (running a e fs) (left p) ok x k = no_move tt
move_good acc room above (running a e fs) (right p) ok x k = no_move tt
move_good acc room above (returning v fs) here ok (returning_ok f r) k = forget (resume_good ok acc room v fs _ r f k)
move_good acc room above (returning v fs) (left p) ok x k = no_move tt
move_good acc room above (returning v fs) (right p) ok x k = no_move tt
move_good acc room above failed here ok x k = no_move tt
move_good acc room above failed (left p) ok x k = no_move tt
move_good acc room above failed (right p) ok x k = no_move tt
move_good acc room above (join fs a e l r) here ok (join_ok le g h x y) k =
    fold_good fs a e l r ok (running_ok le g h) (phase l) (phase r) refl refl
move_good acc room above (join fs a e l r) (left p) ok (join_ok le g h x y) k =
    left_good fs a e l r le g h y (move_good acc room (fs ++ above) l p ok x (λ o. omega (arith, k o)))
move_good acc room above (join fs a e l r) (right p) ok (join_ok le g h x y) k =
    right_good fs a e l r le g h x (move_good acc room [] r p ok y (λ o. omega (arith, k o)))

-- A move of a well-formed configuration leaves a well-formed one; no binding is lost or changed, and no object changes its class.
preserved : {s : Code} {w : Want} {c : Config} {su : Stores} {u : Tree} → WfConfig s w c → Judged s w c.stores c.tree (Unit {0}) (moved su u)
    → WfConfig s w (record { stores = su; tree = u }) × Grows c.stores su
preserved h (a_move f) = (
  record {
    stores = f.stores;
    tree = f.tree;
    distinct = λ o. omega (arith, f.fewer o, h.distinct o);
    covered = λ z o. omega (arith, (f.whole z).1 o, h.covered (f.whole z).0 o);
  },
  f.grows,
)

module _ {s : Code} {start : ℕ} (acc : AcceptedCode s start) (lim : Places) {w : Want} {c : Config} (h : WfConfig s w c) (p : Path) where
  good : Judged s w c.stores c.tree (Unit {0}) (move s lim c p)
  unfolding move
  good = move_good acc (spare lim c.stores c.tree) [] c.tree p h.stores h.tree h.distinct

  pub preservation : {su : Stores} {u : Tree} → move s lim c p ≡ moved su u → WfConfig s w (record { stores = su; tree = u })
  preservation e = (preserved h (rw e at good)).0

  pub growth : {su : Stores} {u : Tree} → move s lim c p ≡ moved su u → Grows c.stores su
  growth e = (preserved h (rw e at good)).1
