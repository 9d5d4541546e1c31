-- A position stays exactly where document 01 says that it cannot move.
use Prim.Native.Nat.{ℕ, zero, suc, ◌+◌, ◌-◌, ◌≤◌}
use native.Mathlib.Omega.{arith}
use mathlib.Core.Path.{◌≡◌, refl, ap}
use mathlib.Core.Bool.{Bool, true, false, cond}
use mathlib.Core.List.{List, [], ◌∷◌}
use mathlib.Core.Logic.{◌⊎◌, inl, inr, ◌↔◌}
use mathlib.Core.Option.{Option, none, some}
use lib.Dec.{ltb}
use Rattle.script.specs.Syntax.{Point}
use Rattle.machine.specs.declared.Store.{Store}
use Rattle.machine.specs.declared.Value.{Value}
use Rattle.machine.specs.declared.Frame.{Frame}
use Rattle.machine.specs.Config.{Code, Object, Stores, Tree, running, returning, failed, join, Config}
use Rattle.machine.specs.Machine.{object, one_if, lock_frames, Places, spare, Outcome, still, full, moved, lock_object, Phase, finished, broken, busy, phase, fold, Path, here, left, right, in_left_tree, in_right_tree, move_at, move, size, to_left, to_right, locate, chosen, choice, part, At, at_root, at_left, at_right}
use Rattle.machine.specs.declared.Want.{Want}
use Rattle.machine.specs.WellFormed.{StoresOk, TreeOk, running_ok, returning_ok, join_ok, lock_count, shut_at, WfConfig, WellFormed}
use Rattle.machine.specs.Accepted.{AcceptedCode}
use Rattle.machine.specs.Ends.{Waits, waits, FinishedThread, has_value}
use Rattle.machine.specs.CannotMove.{StaysHere, stays_waiting, stays_finished, stays_failed, stays_join, Stays, absent, cannot_move}
use Rattle.soundness.proofs.Move.{Judged, no_move, no_room, a_move, run_good, resume_good}
use Rattle.soundness.proofs.Trees.{is_broken}
use Rattle.soundness.proofs.Places.{part_at}

-- there is a part at this place
abbrev Somewhere : Tree → Path → Type 0
Somewhere t p = (u : Tree) × (part t p ≡ some u)

-- a finished thread
pub finished_at : (t : Tree) → phase t ≡ finished → FinishedThread t
finished_at (running a e fs) h = absurd (let z : ◌≡◌ {A = ℕ} 0 1 = cc in omega arith)
finished_at (returning v []) h = has_value
finished_at (returning v (f ∷ fs)) h = absurd (let z : ◌≡◌ {A = ℕ} 0 1 = cc in omega arith)
finished_at failed h = absurd (let z : ◌≡◌ {A = ℕ} 0 1 = cc in omega arith)
finished_at (join fs a e l r) h = absurd (let z : ◌≡◌ {A = ℕ} 0 1 = cc in omega arith)

pub at_finished : {t : Tree} → FinishedThread t → phase t ≡ finished
at_finished has_value = refl

pub busy_unfinished : {t : Tree} → phase t ≡ busy → FinishedThread t → ⊥
busy_unfinished {t} h f = let k : phase t ≡ finished = at_finished f in let z : ◌≡◌ {A = ℕ} 0 1 = cc in omega arith

pub unfailed_finished : {t : Tree} → phase t ≡ finished → t ≡ failed → ⊥
unfailed_finished {t} h e = let k : phase t ≡ broken = ap phase e in let z : ◌≡◌ {A = ℕ} 0 1 = cc in omega arith

pub unfailed_busy : {t : Tree} → phase t ≡ busy → t ≡ failed → ⊥
unfailed_busy {t} h e = let k : phase t ≡ broken = ap phase e in let z : ◌≡◌ {A = ℕ} 0 1 = cc in omega arith

pub finished_or : (t : Tree) → FinishedThread t ⊎ (FinishedThread t → ⊥)
finished_or t = go (phase t) refl
  where
    go : (q : Phase) → phase t ≡ q → FinishedThread t ⊎ (FinishedThread t → ⊥)
    go finished e = inl (finished_at t e)
    go broken e = inr (λ f. unfailed_finished (at_finished f) (is_broken t e))
    go busy e = inr (busy_unfinished e)

-- a join
module _ {s : Code} {st : Stores} {above fs : List Frame} {a : Point} {e : ℕ} {l r : Tree} where
  pub join_both : StaysHere s st above (join fs a e l r) → FinishedThread l → FinishedThread r → ⊥
  join_both (stays_join f g h) = f

  pub join_left : StaysHere s st above (join fs a e l r) → l ≡ failed → ⊥
  join_left (stays_join f g h) = g

  pub join_right : StaysHere s st above (join fs a e l r) → r ≡ failed → ⊥
  join_right (stays_join f g h) = h

-- an outcome is no move exactly if Q
data Told (Q : Type 0) : Outcome → Type 0 where
  told_still : Q → Told Q still
  told_full : {k : Store} → (Q → ⊥) → Told Q (full k)
  told_moved : {st : Stores} {t : Tree} → (Q → ⊥) → Told Q (moved st t)

told_why : {Q : Type 0} {o : Outcome} → Told Q o → o ≡ still → Q
told_why (told_still q) e = q
told_why (told_full f) e = absurd (let z : ◌≡◌ {A = ℕ} 0 1 = cc in omega arith)
told_why (told_moved f) e = absurd (let z : ◌≡◌ {A = ℕ} 0 1 = cc in omega arith)

told_because : {Q : Type 0} {o : Outcome} → Told Q o → Q → o ≡ still
told_because (told_still q) x = refl
told_because (told_full f) x = absurd (f x)
told_because (told_moved f) x = absurd (f x)

-- what a move's judgement tells
told_judged : {s : Code} {w : Want} {st : Stores} {t : Tree} {P Q : Type 0} {o : Outcome} → Judged s w st t P o → (P → Q) → (Q → o ≡ still) → Told Q o
told_judged (no_move p) f g = told_still (f p)
told_judged (no_room {k = k}) f g = told_full (λ q. let e : full k ≡ still = g q in let z : ◌≡◌ {A = ℕ} 0 1 = cc in omega arith)
told_judged (a_move {su = su} {u = u} x) f g = told_moved (λ q. let e : moved su u ≡ still = g q in let z : ◌≡◌ {A = ℕ} 0 1 = cc in omega arith)

-- a shut object is there, and a lock on it that the thread does not hold is no move
module _ (st : Stores) (above fs : List Frame) (a : Point) (e k o : ℕ) (q : lock_frames o fs + lock_frames o above ≡ 0) where
  shut_still : (xs : List Object) (i : ℕ) → shut_at xs i ≡ 1 → lock_object st above fs a e k o (object xs i) ≡ still
  shut_still [] i h = absurd (omega arith)
  shut_still (x ∷ xs) zero h = go x.shut h
    where
      go : (b : Bool) → one_if b ≡ 1 → lock_object st above fs a e k o (some (record { class = x.class; shut = b; fields = x.fields })) ≡ still
      go true h = rw q
      go false h = absurd (omega arith)
  shut_still (x ∷ xs) (suc i) h = shut_still xs i h

module _ (s : Code) (room : Places) (st : Stores) where
  waits_still : {above : List Frame} {t : Tree} {o : ℕ} → Waits s st above o t → move_at s room st above t here ≡ still
  waits_still {above} {o = o} (waits {a = a} {e = e} {fs = fs} i k z q) = rw (i, k.there, k.value) (shut_still st above fs a e room.frames o q st.objects o z)

  node_still : {above fs : List Frame} {a : Point} {e : ℕ} → StaysHere s st above (running a e fs) → move_at s room st above (running a e fs) here ≡ still
  node_still (stays_waiting x) = waits_still x

  value_still : {above fs : List Frame} {v : Value} → StaysHere s st above (returning v fs) → move_at s room st above (returning v fs) here ≡ still
  value_still stays_finished = refl

  no_frame_stays : {above fs : List Frame} {v : Value} → fs ≡ [] → StaysHere s st above (returning v fs)
  no_frame_stays h = rw h stays_finished

  module _ {above fs : List Frame} {a : Point} {e : ℕ} {l r : Tree} where
    fold_told : (p q : Phase) → phase l ≡ p → phase r ≡ q → Told (StaysHere s st above (join fs a e l r)) (fold st fs a e p q)
    fold_told finished finished x y = told_moved (λ k. join_both k (finished_at l x) (finished_at r y))
    fold_told finished broken x y = told_moved (λ k. join_right k (is_broken r y))
    fold_told finished busy x y = told_still (stays_join (λ f g. busy_unfinished y g) (unfailed_finished x) (unfailed_busy y))
    fold_told broken q x y = told_moved (λ k. join_left k (is_broken l x))
    fold_told busy finished x y = told_still (stays_join (λ f g. busy_unfinished x f) (unfailed_busy x) (unfailed_finished y))
    fold_told busy broken x y = told_moved (λ k. join_right k (is_broken r y))
    fold_told busy busy x y = told_still (stays_join (λ f g. busy_unfinished x f) (unfailed_busy x) (unfailed_busy y))

module _ (fs : List Frame) (a : Point) (e : ℕ) (l r : Tree) {Q : Type 0} where
  left_told : {o : Outcome} → Told Q o → Told Q (in_left_tree fs a e r o)
  left_told (told_still q) = told_still q
  left_told (told_full f) = told_full f
  left_told (told_moved f) = told_moved f

  right_told : {o : Outcome} → Told Q o → Told Q (in_right_tree fs a e l o)
  right_told (told_still q) = told_still q
  right_told (told_full f) = told_full f
  right_told (told_moved f) = told_moved f

module _ {s : Code} {st : Stores} {start : ℕ} (acc : AcceptedCode s start) (room : Places) (ok : StoresOk s st) where
  root_told : {w : Want} (above : List Frame) (t : Tree) → TreeOk s st w t → ((o : ℕ) → lock_count o t ≤ shut_at st.objects o) → Told (StaysHere s st above t) (move_at s room st above t here)
  root_told above (running a e fs) (running_ok le g r) k =
      told_judged (run_good ok acc room above fs a _ r e le (s.view a) g.node refl (acc.in_order a g.node) (rw (acc.built a g.node) at g.gives)) (λ x. stays_waiting x.1) (node_still s room st)
  root_told above (returning v fs) (returning_ok f r) k = told_judged (resume_good ok acc room v fs _ r f k) (no_frame_stays s room st) (value_still s room st)
  root_told above failed x k = told_still stays_failed
  root_told above (join fs a e l r) x k = fold_told s room st (phase l) (phase r) refl refl

  told : {w : Want} {above handed : List Frame} {t u : Tree} {p : Path} → At above t p handed u → TreeOk s st w t → ((o : ℕ) → lock_count o t ≤ shut_at st.objects o)
      → Told (StaysHere s st handed u) (move_at s room st above t p)
  told {above = above} {t = t} at_root x k = root_told above t x k
  told (at_left {fs = fs} {a = a} {e = e} {l = l} {r = r} i) (join_ok le g h x y) k = left_told fs a e l r (told i x (λ o. omega (arith, k o)))
  told (at_right {fs = fs} {a = a} {e = e} {l = l} {r = r} i) (join_ok le g h x y) k = right_told fs a e l r (told i y (λ o. omega (arith, k o)))

-- In a well-formed configuration the part at a place cannot move exactly if it is a thread that waits, is finished or failed, or a join with no failed side and not both finished.
pub place_stays : {s : Code} {start : ℕ} (acc : AcceptedCode s start) (lim : Places) {w : Want} {c : Config} → WfConfig s w c → {p : Path} {above : List Frame} {u : Tree} → At [] c.tree p above u
    → (move s lim c p ≡ still) ↔ StaysHere s c.stores above u
unfolding move
place_stays acc lim {c = c} h i = let w = told acc (spare lim c.stores c.tree) h.stores i h.tree h.distinct in (told_why w, told_because w)

-- a position's place is in the tree
module _ (fs : List Frame) (a : Point) (e : ℕ) (l r : Tree) where
  side_place : (b : Bool) (x y : Option Path) {p : Path} → ((q : Path) → x ≡ some q → Somewhere l q) → ((q : Path) → y ≡ some q → Somewhere r q)
      → cond b (to_left x) (to_right y) ≡ some p → Somewhere (join fs a e l r) p
  side_place true none y f g h = absurd (let z : ◌≡◌ {A = ℕ} 0 1 = cc in omega arith)
  side_place true (some q) y {p} f g h = let i : p ≡ left q = cc in rw i (f q refl)
  side_place false x none f g h = absurd (let z : ◌≡◌ {A = ℕ} 0 1 = cc in omega arith)
  side_place false x (some q) {p} f g h = let i : p ≡ right q = cc in rw i (g q refl)

root_only : (t : Tree) {p : Path} → some here ≡ some p → Somewhere t p
root_only t {p} h = let i : p ≡ here = cc in rw i (t, refl)

place_located : (t : Tree) (n : ℕ) (p : Path) → locate t n ≡ some p → Somewhere t p
place_located (running a e fs) zero p h = root_only (running a e fs) h
place_located (running a e fs) (suc n) p h = absurd (let z : ◌≡◌ {A = ℕ} 0 1 = cc in omega arith)
place_located (returning v fs) zero p h = root_only (returning v fs) h
place_located (returning v fs) (suc n) p h = absurd (let z : ◌≡◌ {A = ℕ} 0 1 = cc in omega arith)
place_located failed zero p h = root_only failed h
place_located failed (suc n) p h = absurd (let z : ◌≡◌ {A = ℕ} 0 1 = cc in omega arith)
place_located (join fs a e l r) zero p h = root_only (join fs a e l r) h
place_located (join fs a e l r) (suc n) p h = side_place fs a e l r (ltb n (size l)) (locate l n) (locate r (n - size l)) (place_located l n) (place_located r (n - size l)) h

-- A choice is passed over exactly if its position is absent, or cannot move.
pub still_exactly : {s : Code} {start : ℕ} (acc : AcceptedCode s start) (lim : Places) {c : Config} → WellFormed s lim start c → (n : ℕ)
    → (choice s lim c n ≡ still → Stays s c n) × (Stays s c n → choice s lim c n ≡ still)
unfolding choice
still_exactly {s} acc lim {c} h n = go (locate c.tree n) refl
  where
    there : {p : Path} → locate c.tree n ≡ some p → Stays s c n → move s lim c p ≡ still
    there e (absent i) = absurd (let z : ◌≡◌ {A = ℕ} 0 1 = cc in omega arith)
    there {p} e (cannot_move {p = q} i k x) = let j : q ≡ p = cc in rw j at ((place_stays acc lim h.formed k).1 x)

    go : (o : Option Path) → locate c.tree n ≡ o → (chosen s lim c o ≡ still → Stays s c n) × (Stays s c n → chosen s lim c o ≡ still)
    go none e = (λ x. absent e, λ x. refl)
    go (some p) e =
        let k = (part_at [] c.tree p (place_located c.tree n p e).1).1 in
        (λ x. cannot_move e k ((place_stays acc lim h.formed k).0 x), there e)
