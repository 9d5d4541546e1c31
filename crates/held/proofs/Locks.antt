-- Which objects a thread holds: the lock frames of a run of the frame area, and the run that the thread at a position will resume.
use mathlib.Core.Path.{◌≡◌, refl, sym, ap, ◌∙◌}
use mathlib.Core.Bool.{Bool, true, false, cond}
use mathlib.Core.List.{List, [], ◌∷◌, ◌++◌, map}
use mathlib.Core.Logic.{⊎_elim}
use Prim.Native.Nat.{ℕ, zero, suc, ◌+◌, ◌<◌, ◌≤◌}
use native.Mathlib.Omega.{arith}
use borrow.Author.Tests.{lt-ltb}
use lib.Dec.{eqb, ltb}
use lib.ListN.{length, get_or, take, drop_of_length-le, get_or-map}
use lib.Seq.{length-take-le, slice, slice-cons, take-suc}
use Rattle.words.specs.Word.{bytes}
use Rattle.limits.specs.Limits.{POSITIONS, FRAMES}
use Rattle.script.proofs.Lists.{lt_or_le}
use Rattle.machine.specs.declared.Frame.{Frame}
use Rattle.machine.specs.declared.Frame.TheVariants.{Awaits as awaits, Casts as casts, Locks as locks}
use Rattle.machine.specs.Config as machine
use Rattle.machine.specs.Config.{running, returning, failed, join}
use Rattle.machine.specs.Machine.{one_if, lock_frames, size}
use Rattle.soundness.proofs.Ends.{frames_append, locks_turned}
use Rattle.block.specs.declared.Area.TheVariants.{Positions, Frames}
use Rattle.block.specs.Layout.{counted}
use Rattle.block.specs.Block.{preorder, waiting, frames_of, Parts, parts_of, laid}
use Rattle.representation.specs.Changed.{frame_start}
use Rattle.representation.specs.Preorder.{frames_above, is_join, joins_from}
use Rattle.block.proofs.Words.{count_is_lem}
use Rattle.representation.proofs.Preorder.{named_below, resumed_run}
use Rattle.tree.specs.declared.Entry.{Entry}
use Rattle.tree.specs.Entries.{root_entry, tree_entries, beneath_cell, frame_sum, blank}
use Rattle.tree.specs.Parts.{Leftmost}
use Rattle.tree.proofs.Trees.{sum_append, sum_start}
use Rattle.state.specs.Represents.{SomeState}
use Rattle.state.specs.Positions.{entry_at, entries_in}
use Rattle.held.specs.Holding.{is_lock, LockWithin, Held}
use Rattle.state.proofs.Taking.{entries_many, entry_there, entries_said}
use Rattle.state.proofs.Seeing.{seen_inside, seen_few, waiting_few}
use Rattle.state.proofs.Glue.{frames_sum, sum_take}

-- one frame more
lock_cons : (o : ℕ) (f : Frame) (fs : List Frame) → lock_frames o (f ∷ fs) ≡ one_if (is_lock o f) + lock_frames o fs
lock_cons o (awaits n e) fs = omega arith
lock_cons o (casts n) fs = omega arith
lock_cons o (locks p) fs = refl

-- lock_within: no lock frame from number `from` up to i
pub record Passed (b : List ℕ) (from to o i : ℕ) : Type 0 where
  pub none : (p : Parts) → b ≡ bytes (laid p) → to ≤ length p.frames → lock_frames o (slice from to p.frames) ≡ lock_frames o (slice i to p.frames)

pub none_passed : (b : List ℕ) (from to o : ℕ) → Passed b from to o from
none_passed b from to o = record { none = λ p is l. refl }

module _ {b : List ℕ} {from to o i : ℕ} (before : Passed b from to o i) where
  module _ (f : Frame) {r : Bool} (h : i < to) (read : (p : Parts) → b ≡ bytes (laid p) → i < length p.frames → f ≡ get_or p.frames i (awaits 0 0)) (told : r ≡ is_lock o f) where
    next : (p : Parts) → b ≡ bytes (laid p) → to ≤ length p.frames → lock_frames o (slice from to p.frames) ≡ one_if r + lock_frames o (slice (i + 1) to p.frames)
    next p is l =
        let s : i + 1 ≡ suc i = omega arith in
        before.none p is l
        ∙ rw (slice-cons i to p.frames (awaits 0 0) h l, ← read p is (omega arith), s, told) (lock_cons o f (slice (suc i) to p.frames))

    pub lock_found : r ≡ true → LockWithin b from to o true
    lock_found e p is l = rw (next p is l, e) (sym (lt-ltb 0 (1 + lock_frames o (slice (i + 1) to p.frames)) (omega arith)))

    pub lock_passed : r ≡ false → Passed b from to o (i + 1)
    lock_passed e = record { none = λ p is l. next p is l ∙ rw e (omega arith) }

  pub lock_none : to ≤ i → LockWithin b from to o false
  lock_none h p is l =
      let empty : slice i to p.frames ≡ [] = drop_of_length-le (take to p.frames) {i = i} (omega (arith, length-take-le to p.frames l)) in
      rw (before.none p is l, empty)

pub locks_said : (o p : ℕ) (f : Frame) → f ≡ locks p → eqb o p ≡ is_lock o f
locks_said o p f e = rw e

-- the joins just before a position are those that the code finds
module _ (ss : List machine.Tree) where
  abbrev beneath_at : ℕ → ℕ
  beneath_at k = beneath_cell (get_or (map root_entry ss) k blank).cell

  beneath_join : (k : ℕ) (u : machine.Tree) → get_or ss k failed ≡ u → beneath_at k ≡ beneath_cell (root_entry u).cell
  beneath_join k u e = ap (λ (x : Entry). beneath_cell x.cell) (get_or-map root_entry ss k failed ∙ ap root_entry e)

  module _ (n r : ℕ) (run : Leftmost (map root_entry ss) (suc n) r) where
    found_thread : beneath_at n ≡ 0 → r ≡ suc n
    found_thread z = ⊎_elim (λ h. absurd (omega (arith, run.joins n (omega arith) (omega arith)))) (λ h. omega (arith, run.inside)) (lt_or_le r (suc n))

    found_join : beneath_at n ≡ 2 → Leftmost (map root_entry ss) n r
    found_join z =
        record {
          inside = ⊎_elim (λ h. omega arith) (λ h. absurd (omega (arith, run.first n (omega (arith, run.inside))))) (lt_or_le r (suc n));
          joins = λ k lo hi. run.joins k lo (omega arith);
          first = run.first;
        }

    found_step : (u : machine.Tree) → get_or ss n failed ≡ u → (Leftmost (map root_entry ss) n r → r ≡ joins_from ss n) → r ≡ cond (is_join u) (joins_from ss n) (suc n)
    found_step (running a e fs) g k = found_thread (beneath_join n _ g)
    found_step (returning v fs) g k = found_thread (beneath_join n _ g)
    found_step failed g k = found_thread (beneath_join n _ g)
    found_step (join fs a e x y) g k = k (found_join (beneath_join n _ g))

  found : (n r : ℕ) → Leftmost (map root_entry ss) n r → r ≡ joins_from ss n
  found zero r run = omega (arith, run.inside)
  found (suc n) r run = found_step n r run (get_or ss n failed) refl (found n r)

-- holds: the run lies among the frames
pub sight_frames : {b : List ℕ} {i : ℕ} → SomeState b i → frame_sum (take (i + 1) (entries_in b)) ≤ FRAMES
sight_frames {b} {i} s =
    let one : i + 1 ≡ suc i = omega arith in
    let l : i < length (entries_in b) = omega (arith, entries_many b, seen_inside s.seen) in
    rw (one, take-suc (entries_in b) i blank l, entry_there b i (seen_inside s.seen))
    (omega (arith, sum_append (take i (entries_in b)) (entry_at b i ∷ []), waiting_few s.seen, seen_few s.seen Frames))

-- and what it says
pub held : (b : List ℕ) (i o first from to : ℕ) (r : Bool)
    → Leftmost (entries_in b) i first
    → from ≡ frame_sum (take first (entries_in b))
    → to ≡ frame_sum (take (i + 1) (entries_in b))
    → LockWithin b from to o r
    → Held b i o r
held b i o first from to r run f g within c p u h at there =
    let t = c.tree in
    let few : counted b Positions ≤ POSITIONS = rw h.block (rw (count_is_lem (parts_of c) Positions) (h.few Positions)) in
    let same : entries_in b ≡ tree_entries t = entries_said b (parts_of c) h.block few (h.storable Positions) in
    let l : i < size t = (named_below t i).0 (p, at) in
    let e : i + 1 ≡ suc i = omega arith in
    let k : first ≡ joins_from (preorder t) i = found (preorder t) i first (rw same at run) in
    let from_is : from ≡ frame_start t (joins_from (preorder t) i) = f ∙ rw (same, ← k) (sum_start t first (omega (arith, run.inside))) in
    let to_is : to ≡ frame_start t (suc i) = g ∙ rw (same, e) (sum_start t (suc i) (omega arith)) in
    let room : to ≤ length (frames_of t) = omega (arith, frames_sum t, sum_take (tree_entries t) (suc i), sum_start t (suc i) (omega arith)) in
    let own : List Frame = waiting u in
    let above : List Frame = frames_above [] t p in
    within (parts_of c) h.block room
    ∙ ap (ltb 0)
    (ap (λ (m : ℕ). lock_frames o (slice m to (frames_of t))) from_is
    ∙ ap (λ (m : ℕ). lock_frames o (slice (frame_start t (joins_from (preorder t) i)) m (frames_of t))) to_is
    ∙ ap (lock_frames o) (resumed_run t i p u at there)
    ∙ locks_turned o (own ++ above)
    ∙ frames_append o own above)
