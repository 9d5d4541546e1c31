-- As many choices of a thread as its count says are silent moves of it, and then its move due is a published step, or it waits or has finished.
use Prim.Native.Nat.{ℕ, zero, suc, ◌-◌}
use native.Mathlib.Omega.{arith}
use mathlib.Core.Path.{◌≡◌, refl, ◌∙◌, ap}
use mathlib.Core.Bool.{Bool, true, false}
use mathlib.Core.List.{List, [], ◌∷◌}
use mathlib.Core.Logic.{inl, inr, ⊎_elim}
use mathlib.Core.Option.{some}
use lib.ListN.{replicate}
use Rattle.machine.specs.declared.Store.{Store}
use Rattle.machine.specs.declared.Store.TheVariants.{Frames}
use Rattle.machine.specs.declared.Stop.TheVariants.{Full}
use Rattle.machine.specs.declared.Frame.{Frame}
use Rattle.machine.specs.Config.{Code, Stores, Tree, Config}
use Rattle.machine.specs.Machine.{Places, spare, frame_count, Outcome, still, full, moved, Path, move, locate, chosen, choice, part, At}
use Rattle.machine.specs.WellFormed.{WellFormed}
use Rattle.machine.specs.Accepted.{AcceptedCode}
use Rattle.machine.specs.Ends.{has_value}
use Rattle.machine.specs.CannotMove.{StaysHere, stays_waiting, stays_finished}
use Rattle.machine.specs.Silent.{quiet_in, SilentAt, due}
use Rattle.machine.specs.Runs.{Report, stopped, passed, made, report, makes}
use Rattle.soundness.proofs.Places.{part_at}
use Rattle.soundness.proofs.Trees.{preservation}
use Rattle.soundness.proofs.Within.{within}
use Rattle.soundness.proofs.CannotMove.{place_stays}
use Rattle.soundness.proofs.FullStore.{full_exactly}
use Rattle.soundness.proofs.Run.{able_look, run_runs, runs_report, full_report}
use Rattle.soundness.proofs.Silent.{on_node, next_at, made_at, place_counts, positions_stay, Alive, alive_running, alive_returning, silent_is_due, silent_leaves, frames_more, Counted, due_told}
use Rattle.published.specs.Reach.{no_choice, a_choice}
use Rattle.published.specs.Traces.{Transition, published_step, silent_move}
use Rattle.published.specs.Counts.{NextDue, next_step, next_full, next_wait, next_finish, CountedRow}
use Rattle.published.proofs.Steps.{moves_transitions}

-- a thread whose move due is not silent
module _ {s : Code} {start : ℕ} (acc : AcceptedCode s start) (lim : Places) {c : Config} (p : Path) (h : WellFormed s lim start c) (q : quiet_in s (part c.tree p) ≡ false) where
  next_stays : {above : List Frame} {u : Tree} → Alive u → part c.tree p ≡ some u → At [] c.tree p above u → StaysHere s c.stores above u → NextDue s lim c p
  next_stays alive_running i a (stays_waiting w) = next_wait a w
  next_stays alive_returning i a stays_finished = next_finish i has_value

  next_moves : {st : Stores} {t : Tree} → move s lim c p ≡ moved st t → Transition s c p (record { stores = st; tree = t }) → NextDue s lim c p
  next_moves m (published_step k e) = next_step m k e
  next_moves m (silent_move x e f) = let y : quiet_in s (part c.tree p) ≡ true = silent_is_due x in absurd (let z : ◌≡◌ {A = ℕ} 0 1 = cc in omega arith)

  next : {u : Tree} → part c.tree p ≡ some u → Alive u → (o : Outcome) → move s lim c p ≡ o → NextDue s lim c p
  next i a still m = let k = (part_at [] c.tree p i).1 in next_stays a i k ((place_stays acc lim h.formed k).0 m)
  next i a (full j) m = next_full ((full_exactly acc lim h.formed p j).0 m)
  next i a (moved st t) m = next_moves m (moves_transitions acc lim p h.formed m)

module _ {s : Code} {start : ℕ} (acc : AcceptedCode s start) (lim : Places) (k : ℕ) (p : Path) where
  -- the first choice makes its move, or meets a full store
  run_moves : (c : Config) (ns : List ℕ) (st : Stores) (t : Tree) → locate c.tree k ≡ some p → move s lim c p ≡ moved st t
      → report s lim c (k ∷ ns) ≡ made (report s lim (record { stores = st; tree = t }) ns)
  unfolding choice
  run_moves c ns st t l m =
      let e : choice s lim c k ≡ moved st t = ap (chosen s lim c) l ∙ m in
      runs_report s lim (makes (able_look s lim c k (λ i. let z : ◌≡◌ {A = ℕ} 0 1 = cc in omega arith)) e (run_runs s lim ns (record { stores = st; tree = t })))

  run_full : (c : Config) (ns : List ℕ) (j : Store) → locate c.tree k ≡ some p → move s lim c p ≡ full j → report s lim c (k ∷ ns) ≡ passed (stopped (Full j) c)
  unfolding choice
  run_full c ns j l m = full_report s lim k ns c j (ap (chosen s lim c) l ∙ m)

  -- with no count left
  none_left : {c : Config} {u : Tree} → WellFormed s lim start c → part c.tree p ≡ some u → Alive u → (b : Bool) → quiet_in s (part c.tree p) ≡ b → Counted b 0 → CountedRow s lim c k p 0
  unfolding report
  none_left h i a true q z = absurd (omega arith)
  none_left {c} h i a false q z =
      record {
        made = 0;
        after = c;
        quietly = no_choice;
        moves = refl;
        leaves = refl;
        ends = inl (refl, q, next acc lim p h q i a (move s lim c p) refl);
        room = λ f. refl;
      }

  module _ (n : ℕ) {c : Config} (h : WellFormed s lim start c) (l : locate c.tree k ≡ some p) (q : quiet_in s (part c.tree p) ≡ true) where
    one_more : (t : Tree) → SilentAt s p c.tree t → move s lim c p ≡ moved c.stores t → CountedRow s lim (record { stores = c.stores; tree = t }) k p n → CountedRow s lim c k p (suc n)
    one_more t x m r =
        let e = run_moves c (replicate n k) c.stores t l m in
        record {
          made = suc r.made;
          after = r.after;
          quietly = a_choice l q m r.quietly;
          moves = ap (λ (y : Report). y.moves) e ∙ ap suc r.moves;
          leaves = ap (λ (y : Report). y.config) e ∙ r.leaves;
          ends = ⊎_elim (λ y. inl (ap suc y.0, y.1, y.2)) (λ y. inr (omega (arith, y.0), ap (λ (y : Report). y.stop) e ∙ y.1)) r.ends;
          room = λ f. ap suc (r.room (omega (arith, frames_more x)));
        }

    no_frame : (move s lim c p ≡ full Frames) × (lim.frames - frame_count c.tree ≡ 0) → CountedRow s lim c k p (suc n)
    no_frame m =
        let e = run_full c (replicate n k) Frames l m.0 in
        record {
          made = 0;
          after = c;
          quietly = no_choice;
          moves = ap (λ (y : Report). y.moves) e;
          leaves = ap (λ (y : Report). y.config) e;
          ends = inr (omega arith, ap (λ (y : Report). y.stop) e);
          room = λ f. absurd (omega (arith, m.1));
        }

  silent_left : (n : ℕ) {c : Config} {u : Tree} → WellFormed s lim start c → locate c.tree k ≡ some p → part c.tree p ≡ some u → due s (part c.tree p) ≡ suc n
      → ((t : Tree) → SilentAt s p c.tree t → move s lim c p ≡ moved c.stores t → CountedRow s lim (record { stores = c.stores; tree = t }) k p n)
      → (b : Bool) → quiet_in s (part c.tree p) ≡ b → Counted b (suc n) → CountedRow s lim c k p (suc n)
  unfolding move
  silent_left n h l i d rec false q z = absurd (omega arith)
  silent_left n {c} h l i d rec true q z =
      let x = next_at s c.tree p q in
      ⊎_elim
      (λ (m : move s lim c p ≡ moved c.stores x.0). one_more n h l q x.0 x.1 m (rec x.0 x.1 m))
      (λ m. no_frame n h l q m)
      (made_at s (spare lim c.stores c.tree) c.stores [] x.1)

  -- the row of a thread, by its count
  pub counted_row : (n : ℕ) {c : Config} {u : Tree} → WellFormed s lim start c → locate c.tree k ≡ some p → part c.tree p ≡ some u → Alive u → due s (part c.tree p) ≡ n → CountedRow s lim c k p n
  counted_row zero {c} h l i a d =
      let z = (due_told acc (part c.tree p) (on_node h.formed.tree p)).1 in
      none_left h i a (quiet_in s (part c.tree p)) refl (rw d at z)
  counted_row (suc n) {c} h l i a d =
      let z = (due_told acc (part c.tree p) (on_node h.formed.tree p)).1 in
      silent_left n h l i d
      (λ t x m.
      let f : WellFormed s lim start (record { stores = c.stores; tree = t }) = record { formed = preservation acc lim h.formed p m; within = within lim s c p h.within m } in
      let v = silent_leaves x in
      let j : due s (part t p) ≡ n = omega (arith, (place_counts acc x (on_node h.formed.tree p)).1) in
      counted_row n f ((positions_stay x).1 k ∙ l) v.1 v.2 j)
      (quiet_in s (part c.tree p)) refl (rw d at z)
