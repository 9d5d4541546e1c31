-- Where nothing can move the run has ended in one of three ways.
use Prim.Native.Nat.{ℕ, ◌+◌, ◌≤◌}
use native.Mathlib.Omega.{arith}
use native.Mathlib.Decide.{dec_le}
use mathlib.Core.Path.{◌≡◌, refl, ap, ◌∙◌}
use mathlib.Core.Bool.{false}
use mathlib.Core.Option.{Option, some}
use mathlib.Core.Logic.{◌⊎◌, inl, inr, ⊎_elim}
use mathlib.Core.List.{List, [], ◌∷◌, ◌++◌, reverse, reverse-append}
use Rattle.script.specs.Syntax.{Point}
use Rattle.machine.specs.declared.Ending.{Ending}
use Rattle.machine.specs.declared.Frame.{Frame}
use Rattle.machine.specs.declared.Frame.TheVariants.{Awaits as awaits, Casts as casts, Locks as locks}
use Rattle.machine.specs.Config.{Code, Stores, Tree, running, returning, failed, join, Config}
use Rattle.machine.specs.Machine.{lock_frames, Places, still, Phase, finished, broken, busy, phase, Path, here, left, right, move, At, at_root, at_left, at_right}
use Rattle.machine.specs.declared.Want.{Want}
use Rattle.machine.specs.WellFormed.{lock_count, failures, shut_at, WfConfig}
use Rattle.machine.specs.Accepted.{AcceptedCode}
use Rattle.machine.specs.CannotMove.{StaysHere, stays_waiting, stays_finished, stays_failed}
use Rattle.machine.specs.Ends.{Waits, waits, Thread, thread_running, thread_returning, thread_failed, FinishedThread, has_value, held_by, Blocked, Deadlock, ending, End, ends_finished, ends_failed, ends_deadlocked}
use Rattle.soundness.proofs.Places.{part_at}
use Rattle.soundness.proofs.Trees.{finished_locks, is_broken}
use Rattle.soundness.proofs.CannotMove.{finished_at, finished_or, busy_unfinished, unfailed_finished, unfailed_busy, join_both, join_left, join_right, place_stays}

-- No part of the tree can move.
abbrev AllStay : Code → Stores → List Frame → Tree → Type 0
AllStay s st above t = (p : Path) (handed : List Frame) (u : Tree) → At above t p handed u → StaysHere s st handed u

-- a thread of it that waits
record Waiter (s : Code) (st : Stores) (above : List Frame) (t : Tree) : Type 0 where
  place : Path
  handed : List Frame
  thread : Tree
  object : ℕ
  there : At above t place handed thread
  waiting : Waits s st handed object thread

at_whole : {above handed : List Frame} {t u : Tree} {p : Path} → At above t p handed u → failures t ≡ 0 → failures u ≡ 0
at_whole at_root z = z
at_whole (at_left k) z = at_whole k (omega arith)
at_whole (at_right k) z = at_whole k (omega arith)

module _ {s : Code} {st : Stores} where
  -- it has no failed thread, unless it is one
  whole : (above : List Frame) (t : Tree) → AllStay s st above t → (t ≡ failed → ⊥) → failures t ≡ 0
  whole above (running a e fs) k n = refl
  whole above (returning v fs) k n = refl
  whole above failed k n = absurd (n refl)
  whole above (join fs a e l r) k n =
      let x = k here above (join fs a e l r) at_root in
      omega (arith, whole (fs ++ above) l (λ p h u i. k (left p) h u (at_left i)) (join_left x), whole [] r (λ p h u i. k (right p) h u (at_right i)) (join_right x))

  -- each thread is finished or waits, and if it is not itself finished some thread waits
  each : {above : List Frame} {u : Tree} → Thread u → StaysHere s st above u → failures u ≡ 0 → FinishedThread u ⊎ ((o : ℕ) × Waits s st above o u)
  each thread_running (stays_waiting {o = o} x) z = inr (o, x)
  each thread_returning stays_finished z = inl has_value
  each thread_failed stays_failed z = absurd (omega arith)

  itself : (above : List Frame) (t : Tree) → Thread t → AllStay s st above t → failures t ≡ 0 → (FinishedThread t → ⊥) → Waiter s st above t
  itself above t x k z n =
      ⊎_elim (λ f. absurd (n f)) (λ w. record { place = here; handed = above; thread = t; object = w.0; there = at_root; waiting = w.1 }) (each x (k here above t at_root) z)

  in_left : {above fs : List Frame} {a : Point} {e : ℕ} {l r : Tree} → Waiter s st (fs ++ above) l → Waiter s st above (join fs a e l r)
  in_left w = record { place = left w.place; handed = w.handed; thread = w.thread; object = w.object; there = at_left w.there; waiting = w.waiting }

  in_right : {above fs : List Frame} {a : Point} {e : ℕ} {l r : Tree} → Waiter s st [] r → Waiter s st above (join fs a e l r)
  in_right w = record { place = right w.place; handed = w.handed; thread = w.thread; object = w.object; there = at_right w.there; waiting = w.waiting }

  someone : (above : List Frame) (t : Tree) → AllStay s st above t → failures t ≡ 0 → (FinishedThread t → ⊥) → Waiter s st above t
  someone above (running a e fs) k z n = itself above (running a e fs) thread_running k z n
  someone above (returning v fs) k z n = itself above (returning v fs) thread_returning k z n
  someone above failed k z n = itself above failed thread_failed k z n
  someone above (join fs a e l r) k z n =
      ⊎_elim
      (λ f. in_right (someone [] r (λ p h u i. k (right p) h u (at_right i)) (omega arith) (join_both (k here above (join fs a e l r) at_root) f)))
      (λ f. in_left (someone (fs ++ above) l (λ p h u i. k (left p) h u (at_left i)) (omega arith) f))
      (finished_or l)

-- a thread that waits does not hold, and some thread holds
pub frames_append : (o : ℕ) (fs gs : List Frame) → lock_frames o (fs ++ gs) ≡ lock_frames o fs + lock_frames o gs
frames_append o [] gs = omega arith
frames_append o (awaits n e ∷ fs) gs = frames_append o fs gs
frames_append o (casts n ∷ fs) gs = frames_append o fs gs
frames_append o (locks p ∷ fs) gs = omega (arith, frames_append o fs gs)

pub locks_turned : (o : ℕ) (fs : List Frame) → lock_frames o (reverse fs) ≡ lock_frames o fs
locks_turned o [] = refl
locks_turned o (f ∷ fs) =
    ap (lock_frames o) (reverse-append (f ∷ []) fs)
    ∙ omega (arith, frames_append o (reverse fs) (f ∷ []), frames_append o (f ∷ []) fs, locks_turned o fs)

waits_without : {s : Code} {st : Stores} {o : ℕ} {above handed : List Frame} {t u : Tree} {p : Path} → At above t p handed u → Waits s st handed o u → (n : ℕ) → n ≡ lock_frames o above → held_by o n t p ≡ 0
waits_without at_root (waits i k z q) n c = omega (arith, q)
waits_without {o = o} (at_left {above = above} {fs = fs} k) x n c = waits_without k x _ (omega (arith, frames_append o fs above))
waits_without (at_right k) x n c = waits_without k x 0 refl

waits_shut : {s : Code} {st : Stores} {o : ℕ} {above : List Frame} {u : Tree} → Waits s st above o u → shut_at st.objects o ≡ 1
waits_shut (waits i k z q) = z

unfoldable pub Holder : ℕ → ℕ → Tree → Type 0
Holder o n t = (p : Path) × (1 ≤ held_by o n t p)

pub holder : (o n : ℕ) (t : Tree) → failures t ≡ 0 → 1 ≤ n + lock_count o t → Holder o n t
unfolding Holder
holder o n (running a e fs) z h = (here, omega arith)
holder o n (returning v fs) z h = (here, omega arith)
holder o n failed z h = absurd (omega arith)
holder o n (join fs a e l r) z h = go (holder o (lock_frames o fs + n) l (omega arith)) (holder o 0 r (omega arith)) (dec_le 1 (lock_frames o fs + n + lock_count o l))
  where
    go : (1 ≤ lock_frames o fs + n + lock_count o l → Holder o (lock_frames o fs + n) l) → (1 ≤ 0 + lock_count o r → Holder o 0 r)
        → Dec (1 ≤ lock_frames o fs + n + lock_count o l) → Holder o n (join fs a e l r)
    go x y (yes k) = let q = x k in (left q.0, q.1)
    go x y (no k) = let q = y (omega arith) in (right q.0, q.1)

blocked : {s : Code} {st : Stores} {o : ℕ} {handed : List Frame} (t : Tree) (p : Path) (u : Tree) → failures t ≡ 0 → ((o : ℕ) → shut_at st.objects o ≤ lock_count o t)
    → At [] t p handed u → Waits s st handed o u → Blocked s st t p u
unfolding Holder
blocked {o = o} {handed = handed} t p u z k i w =
    let q : Holder o 0 t = holder o 0 t z (omega (arith, k o, waits_shut w)) in
    record {
      object = o;
      handed = handed;
      there = i;
      waiting = w;
      holder = q.0;
      another = λ h. omega (arith, q.1, waits_without i w 0 refl, ap (held_by o 0 t) h);
      holds = q.1;
    }

-- an end is seen, and it is that of the configuration
pub data SeenEnd (s : Code) (c : Config) : Option Ending → Type 0 where
  seen : {k : Ending} → End s c k → SeenEnd s c (some k)

pub seen_end : {s : Code} {c : Config} {k : Ending} → SeenEnd s c (some k) → End s c k
seen_end (seen x) = x

pub some_end : {s : Code} {c : Config} {o : Option Ending} → SeenEnd s c o → (k : Ending) × End s c k
some_end (seen {k = k} x) = (k, x)

module _ {s : Code} {w : Want} {c : Config} (h : WfConfig s w c) (k : AllStay s c.stores [] c.tree) where
  deadlocked : failures c.tree ≡ 0 → (FinishedThread c.tree → ⊥) → Deadlock s c.stores c.tree
  deadlocked z n =
      let y = someone [] c.tree k z n in
      record {
        every = λ p u e x.
            let i = part_at [] c.tree p e in
            ⊎_elim inl (λ v. inr (blocked c.tree p u z (h.covered z) i.1 v.1)) (each x (k p i.0 u i.1) (at_whole i.1 z));
        place = y.place;
        thread = y.thread;
        waiting = blocked c.tree y.place y.thread z (h.covered z) y.there y.waiting;
      }

  ended : (q : Phase) → phase c.tree ≡ q → SeenEnd s c (ending q false)
  ended finished e =
      let z = whole [] c.tree k (unfailed_finished e) in
      seen (ends_finished (finished_at c.tree e) (λ o. omega (arith, h.covered z o, finished_locks c.tree e o)))
  ended broken e = seen (ends_failed (is_broken c.tree e))
  ended busy e = seen (ends_deadlocked (deadlocked (whole [] c.tree k (unfailed_busy e)) (busy_unfinished e)))

-- Where no place can move, the run has ended in one of the three ways.
pub classified : {s : Code} {start : ℕ} (acc : AcceptedCode s start) (lim : Places) {w : Want} {c : Config} → WfConfig s w c → ((p : Path) → move s lim c p ≡ still)
    → SeenEnd s c (ending (phase c.tree) false)
classified acc lim {c = c} h n = ended h (λ p a u i. (place_stays acc lim h i).0 (n p)) (phase c.tree) refl
