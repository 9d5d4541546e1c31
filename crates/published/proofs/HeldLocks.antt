-- The sets L of the threads of a reading: objects that are locked in H, each in one set and once, and those that the configuration's threads hold.
use Prim.Native.Nat.{ℕ, zero, suc, ◌+◌, ◌≤◌}
use native.Mathlib.Omega.{arith}
use mathlib.Core.Path.{◌≡◌, refl, sym, ap, ◌∙◌}
use mathlib.Core.Logic.{◌↔◌}
use mathlib.Core.Bool.{Bool, true, false}
use mathlib.Core.List.{List, [], ◌∷◌, ◌++◌}
use borrow.Author.Tests.{eq-eqb}
use Rattle.script.specs.Lists.{◌∈◌}
use Rattle.script.specs.Regular.{Unique, no_more, one_more}
use Rattle.machine.specs.declared.Frame.{Frame}
use Rattle.machine.specs.declared.Frame.TheVariants.{Awaits as awaits, Casts as casts, Locks as locks}
use Rattle.machine.specs.Config.{Code, Object, Binding, Tree, running, returning, failed, join, Config}
use Rattle.machine.specs.Machine.{Path, here, left, right, lock_frames, one_if, held}
use Rattle.machine.specs.declared.Want.{Want}
use Rattle.machine.specs.WellFormed.{failures, shut_at, WfConfig}
use Rattle.machine.specs.Ends.{held_by}
use Rattle.published.specs.ReadAs.{read, reading}
use Rattle.published.specs.HeldLocks.{SetAt, set_here, set_left, set_right, InSet, Locked, LocksOk}
use Rattle.soundness.proofs.Stores.{shut_at_le, shut_at_object}
use Rattle.soundness.proofs.Ends.{frames_append, Holder, holder}
use Rattle.soundness.proofs.Positions.{held_bound, exclusive}
use Rattle.machine.proofs.Locks.{in_held, held_in}

-- the set of a thread is that of the lock frames by which it holds objects
record LocksBy (L : List ℕ) (count : ℕ → ℕ) : Type 0 where
  frames : List Frame
  set : L ≡ held frames
  counts : (o : ℕ) → count o ≡ lock_frames o frames

module _ (s : Code) (bs : List Binding) where
  set_frames : (above : List Frame) (t : Tree) {p : Path} {L : List ℕ} → SetAt (read s bs above t) p L → LocksBy L (λ o. held_by o (lock_frames o above) t p)
  set_frames above (running a e fs) set_here = record { frames = fs ++ above; set = refl; counts = λ o. sym (frames_append o fs above) }
  set_frames above (returning v fs) set_here = record { frames = fs ++ above; set = refl; counts = λ o. sym (frames_append o fs above) }
  set_frames above (join fs a e l r) (set_left {p = p} x) =
      let h = set_frames (fs ++ above) l x in
      record { frames = h.frames; set = h.set; counts = λ o. ap (λ (n : ℕ). held_by o n l p) (sym (frames_append o fs above)) ∙ h.counts o }
  set_frames above (join fs a e l r) (set_right x) = set_frames [] r x
  set_frames above failed x = elim x [ ]

  -- a thread that holds an object has a set
  set_there : (above : List Frame) (o n : ℕ) (t : Tree) (p : Path) → 1 ≤ held_by o n t p → (L : List ℕ) × SetAt (read s bs above t) p L
  set_there above o n (running a e fs) here h = (held (fs ++ above), set_here)
  set_there above o n (running a e fs) (left p) h = absurd (omega arith)
  set_there above o n (running a e fs) (right p) h = absurd (omega arith)
  set_there above o n (returning v fs) here h = (held (fs ++ above), set_here)
  set_there above o n (returning v fs) (left p) h = absurd (omega arith)
  set_there above o n (returning v fs) (right p) h = absurd (omega arith)
  set_there above o n failed p h = absurd (omega arith)
  set_there above o n (join fs a e l r) here h = absurd (omega arith)
  set_there above o n (join fs a e l r) (left p) h = let x = set_there (fs ++ above) o (lock_frames o fs + n) l p h in (x.0, set_left x.1)
  set_there above o n (join fs a e l r) (right p) h = let x = set_there [] o 0 r p h in (x.0, set_right x.1)

-- lock frames of distinct objects
distinct_held : (fs : List Frame) → ((o : ℕ) → lock_frames o fs ≤ 1) → Unique (λ o. o) (held fs)
distinct_held [] h = no_more
distinct_held (awaits n e ∷ fs) h = distinct_held fs h
distinct_held (casts n ∷ fs) h = distinct_held fs h
distinct_held (locks p ∷ fs) h =
    one_more
    (λ b (m : b ∈ held fs) (e : p ≡ b). omega (arith, h b, ap one_if (eq-eqb b p (sym e)), in_held b fs m))
    (distinct_held fs (λ o. omega (arith, h o)))

pub shut_locked : (xs : List Object) (o : ℕ) → 1 ≤ shut_at xs o → Locked xs o
shut_locked [] o h = absurd (omega arith)
shut_locked (x ∷ xs) zero h = record { it = x; there = refl; shut = is_one x.shut h }
  where
    is_one : (b : Bool) → 1 ≤ one_if b → b ≡ true
    is_one true h = refl
    is_one false h = absurd (omega arith)
shut_locked (x ∷ xs) (suc o) h = let y = shut_locked xs o h in record { it = y.it; there = y.there; shut = y.shut }

-- A thread of a configuration holds an object, by document 01's words, if and only if the thread of the reading at the same place has it in its set.
pub held_exactly : (s : Code) (c : Config) (o : ℕ) (p : Path) → (1 ≤ held_by o 0 c.tree p) ↔ InSet (reading s c).threads p o
held_exactly s c o p = (to, from)
  where
    of : {L : List ℕ} → SetAt (reading s c).threads p L → LocksBy L (λ o. held_by o 0 c.tree p)
    of x = set_frames s c.stores.bindings [] c.tree x

    to : 1 ≤ held_by o 0 c.tree p → InSet (reading s c).threads p o
    to h =
        let x = set_there s c.stores.bindings [] o 0 c.tree p h in
        let g = of x.1 in
        (x.0, x.1, rw g.set (held_in o g.frames (rw (← g.counts o) h)))

    from : InSet (reading s c).threads p o → 1 ≤ held_by o 0 c.tree p
    from y = let g = of y.1 in rw (g.counts o) (in_held o g.frames (rw g.set at y.2))

module _ {s : Code} {w : Want} {c : Config} (h : WfConfig s w c) where
  -- The sets of a well-formed configuration's reading are of locked objects, without repetition, and apart.
  pub locks_ok : LocksOk (reading s c)
  locks_ok =
      record {
        locked = λ p o x. shut_locked c.stores.objects o (omega (arith, (held_exactly s c o p).1 x, held_bound o 0 c.tree p, h.distinct o));
        once = λ p L x.
            let g = set_frames s c.stores.bindings [] c.tree x in
            rw g.set (distinct_held g.frames (λ o. omega (arith, g.counts o, held_bound o 0 c.tree p, h.distinct o, shut_at_le c.stores.objects o)));
        apart = λ p q o x y. exclusive h o p q ((held_exactly s c o p).1 x) ((held_exactly s c o q).1 y);
      }

  -- With no failed thread every locked object is in the set of some thread.
  pub locks_all : failures c.tree ≡ 0 → (o : ℕ) → Locked c.stores.objects o → (p : Path) × InSet (reading s c).threads p o
  unfolding Holder
  locks_all z o k =
      let x = holder o 0 c.tree z (omega (arith, h.covered z o, shut_at_object c.stores.objects o k.it k.there, ap one_if k.shut)) in
      (x.0, (held_exactly s c o x.0).0 x.1)
