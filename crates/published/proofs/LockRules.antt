-- The reading of a well-formed configuration is well formed with respect to locking.
use Prim.Native.Nat.{ℕ, suc, ◌+◌, ◌≤◌}
use native.Mathlib.Omega.{arith}
use native.Mathlib.Decide.{dec_le, ℕ_discrete}
use mathlib.Core.Path.{◌≡◌, refl, ap}
use mathlib.Core.Logic.{◌↔◌, ◌⊎◌, inl, inr, ⊎_elim}
use mathlib.Core.List.{List, [], ◌∷◌, ◌++◌}
use lib.ListN.{length}
use borrow.Author.Tests.{eq-eqb, ne_eqb}
use Rattle.script.specs.Lists.{◌∈◌, count_in}
use Rattle.script.specs.Syntax.{Point, Expr, null, var, select, update, call, bind, new, cast, fork, lock, constant, add, Node, n_null, n_var, n_select, n_update, n_call, n_bind, n_new, n_cast, n_fork, n_lock, n_constant, n_add}
use Rattle.script.proofs.Lists.{count_append}
use Rattle.machine.specs.declared.Value.{Value}
use Rattle.machine.specs.declared.Frame.{Frame}
use Rattle.machine.specs.declared.Frame.TheVariants.{Awaits as awaits, Casts as casts, Locks as locks}
use Rattle.machine.specs.declared.Want.{Want}
use Rattle.machine.specs.Config.{Code, Object, Binding, Tree, running, returning, failed, join, Config}
use Rattle.machine.specs.Machine.{lock_frames, held, one_if}
use Rattle.machine.specs.WellFormed.{lock_count, shut_at, WfConfig}
use Rattle.published.specs.Steps.{PVar, static, PExpr, p_value, p_locked, shadow, close, fill, PTree, p_thread, remove}
use Rattle.published.specs.ReadAs.{names, gap, hole, plug, said, read, reading}
use Rattle.published.specs.LockRules.{locked_list, as_set, DistinctLocks, held_locks, LeftmostFailed, leftmost_here, leftmost_left, WfLocks, WF-L-THREAD, WF-L-ASYNC, WF-L-EXN, leftmost_failed, all_locked, LockFramesOk}
use Rattle.soundness.proofs.Stores.{shut_at_le, shut_at_object}
use Rattle.soundness.proofs.Ends.{frames_append}
use Rattle.machine.proofs.Locks.{count_head, count_in_lem, in_count, frames_held, held_in, in_held}
use Rattle.published.proofs.HeldLocks.{shut_locked}

-- sets by counting
remove_other : (p : ℕ) (l : List ℕ) → count_in p l ≡ 0 → remove p l ≡ l
remove_other p [] h = refl
remove_other p (q ∷ l) h = go (ℕ_discrete p q) (remove_other p l)
  where
    go : Dec (p ≡ q) → (count_in p l ≡ 0 → remove p l ≡ l) → remove p (q ∷ l) ≡ q ∷ l
    go (yes e) f = absurd (omega (arith, count_head p q l, ap one_if (eq-eqb p q e)))
    go (no n) f = rw (ne_eqb p q n) (ap (λ m. q ∷ m) (f (omega (arith, count_head p q l))))

remove_less : (o p : ℕ) (l : List ℕ) → count_in o (remove p l) ≤ count_in o l
remove_less o p [] = omega arith
remove_less o p (q ∷ l) = go (ℕ_discrete p q) (remove_less o p l)
  where
    go : Dec (p ≡ q) → count_in o (remove p l) ≤ count_in o l → count_in o (remove p (q ∷ l)) ≤ count_in o (q ∷ l)
    go (yes e) h = rw (eq-eqb p q e) (omega (arith, count_head o q l))
    go (no n) h = rw (ne_eqb p q n) (omega (arith, count_head o q l, count_head o q (remove p l)))

set_less : (o : ℕ) (l : List ℕ) → count_in o (as_set l) ≤ count_in o l
set_less o [] = omega arith
set_less o (p ∷ l) = omega (arith, count_head o p l, count_head o p (remove p (as_set l)), remove_less o p (as_set l), set_less o l)

in_set : (o : ℕ) (l : List ℕ) → o ∈ as_set l → 1 ≤ count_in o l
in_set o l m = omega (arith, in_count o (as_set l) m, set_less o l)

-- where no element stands twice, the set has as many as the list
as_many : (l : List ℕ) → ((o : ℕ) → count_in o l ≤ 1) → length (as_set l) ≡ length l
as_many [] h = refl
as_many (p ∷ l) h =
    let n : count_in p (as_set l) ≡ 0 = omega (arith, h p, count_head p p l, ap one_if (eq-eqb p p refl), set_less p l) in
    rw (remove_other p (as_set l) n) (ap suc (as_many l (λ o. omega (arith, h o, count_head o p l))))

-- an expression of the text has no lockedι
text_unlocked : (m : ℕ → PVar) (e : Expr) → locked_list (close m e) ≡ []
text_unlocked m (null n) = refl
text_unlocked m (var n x) = refl
text_unlocked m (select n x f) = refl
text_unlocked m (update n x f a) = text_unlocked m a
text_unlocked m (call n x g a) = text_unlocked m a
text_unlocked m (bind n x a b) = rw (text_unlocked m a, text_unlocked (shadow x m) b)
text_unlocked m (new n c) = refl
text_unlocked m (cast n t a) = text_unlocked m a
text_unlocked m (fork n a b c) = rw (text_unlocked m a, text_unlocked m b, text_unlocked m c)
text_unlocked m (lock n x a) = text_unlocked m a
text_unlocked m (constant n z) = refl
text_unlocked m (add n x y) = refl

text_count : (o : ℕ) (m : ℕ → PVar) (e : Expr) → count_in o (locked_list (close m e)) ≡ 0
unfolding count_in
text_count o m e = rw (text_unlocked m e)

-- nor has a waiting node
gap_count : (s : Code) (o : ℕ) (m : ℕ → PVar) (n : Node) (a : PExpr) → count_in o (locked_list (fill (gap s m n) a)) ≡ count_in o (locked_list a)
gap_count s o m n_null a = refl
gap_count s o m (n_var x) a = refl
gap_count s o m (n_select x f) a = refl
gap_count s o m (n_update x f p) a = refl
gap_count s o m (n_call x n p) a = refl
gap_count s o m (n_bind x p q) a = omega (arith, count_append o (locked_list a) (locked_list (close (shadow x m) (s.expr q))), text_count o (shadow x m) (s.expr q))
gap_count s o m (n_new c) a = refl
gap_count s o m (n_cast t p) a = refl
gap_count s o m (n_fork p q r) a = refl
gap_count s o m (n_lock x p) a = refl
gap_count s o m (n_constant z) a = refl
gap_count s o m (n_add x y) a = refl

module _ (s : Code) (bs : List Binding) where
  -- so those of a thread's expression are its lock frames
  plug_count : (o : ℕ) (fs : List Frame) (a : PExpr) → count_in o (locked_list (plug s bs fs a)) ≡ lock_frames o fs + count_in o (locked_list a)
  plug_count o [] a = omega arith
  plug_count o (awaits n e ∷ fs) a = omega (arith, plug_count o fs (fill (hole s bs (awaits n e)) a), gap_count s o (names bs e) (s.view n) a)
  plug_count o (casts n ∷ fs) a = omega (arith, plug_count o fs (fill (hole s bs (casts n)) a), gap_count s o static (s.view n) a)
  plug_count o (locks p ∷ fs) a = omega (arith, plug_count o fs (p_locked p a), count_head o p (locked_list a))

  said_count : (o : ℕ) (fs : List Frame) (e : ℕ) (a : Point) → count_in o (locked_list (plug s bs fs (said s bs e a))) ≡ lock_frames o fs
  said_count o fs e a = omega (arith, plug_count o fs (said s bs e a), text_count o (names bs e) (s.expr a))

  value_count : (o : ℕ) (fs : List Frame) (v : Value) → count_in o (locked_list (plug s bs fs (p_value v))) ≡ lock_frames o fs
  unfolding count_in
  value_count o fs v = omega (arith, plug_count o fs (p_value v))

  all_count : (o : ℕ) (above : List Frame) (t : Tree) → count_in o (all_locked (read s bs above t)) ≡ lock_count o t
  unfolding count_in
  all_count o above (running a e fs) = said_count o fs e a
  all_count o above (returning v fs) = value_count o fs v
  all_count o above failed = refl
  all_count o above (join fs a e l r) =
      let L = all_locked (read s bs (fs ++ above) l) in
      let R = all_locked (read s bs [] r) in
      omega (arith, count_append o (locked_list (plug s bs fs (said s bs e a))) (L ++ R), count_append o L R, said_count o fs e a, all_count o (fs ++ above) l, all_count o [] r)

  -- what a tree's threads hold: at most its lock frames and those above it, of which those above are held by the leftmost thread, unless it has failed
  held_most : (o : ℕ) (above : List Frame) (t : Tree) → count_in o (held_locks (read s bs above t)) ≤ lock_frames o above + lock_count o t
  unfolding count_in
  held_most o above (running a e fs) = omega (arith, frames_held o (fs ++ above), frames_append o fs above)
  held_most o above (returning v fs) = omega (arith, frames_held o (fs ++ above), frames_append o fs above)
  held_most o above failed = omega arith
  held_most o above (join fs a e l r) =
      omega (arith, count_append o (held_locks (read s bs (fs ++ above) l)) (held_locks (read s bs [] r)), held_most o (fs ++ above) l, held_most o [] r, frames_append o fs above)

  held_failed : (o : ℕ) (above : List Frame) (t : Tree) → LeftmostFailed (read s bs above t) → count_in o (held_locks (read s bs above t)) ≤ lock_count o t
  unfolding count_in
  held_failed o above failed f = omega arith
  held_failed o above (running _ _ _) f = elim f [ ]
  held_failed o above (returning _ _) f = elim f [ ]
  held_failed o above (join fs a e l r) (leftmost_left f) =
      omega (arith, count_append o (held_locks (read s bs (fs ++ above) l)) (held_locks (read s bs [] r)), held_failed o (fs ++ above) l f, held_most o [] r)

  leftmost_holds : (above : List Frame) (t : Tree) → LeftmostFailed (read s bs above t) ⊎ ((o : ℕ) → lock_frames o above ≤ count_in o (held_locks (read s bs above t)))
  leftmost_holds above (running a e fs) = inr (λ o. omega (arith, frames_held o (fs ++ above), frames_append o fs above))
  leftmost_holds above (returning v fs) = inr (λ o. omega (arith, frames_held o (fs ++ above), frames_append o fs above))
  leftmost_holds above failed = inl leftmost_here
  leftmost_holds above (join fs a e l r) =
      ⊎_elim
      (λ f. inl (leftmost_left f))
      (λ k. inr (λ o. omega (arith, count_append o (held_locks (read s bs (fs ++ above) l)) (held_locks (read s bs [] r)), k o, frames_append o fs above)))
      (leftmost_holds (fs ++ above) l)

  module _ (xs : List Object) where
    thread_formed : (above fs : List Frame) (a : PExpr) → ((o : ℕ) → count_in o (locked_list a) ≡ lock_frames o fs)
        → ((o : ℕ) → lock_frames o above + lock_frames o fs ≤ shut_at xs o)
        → WfLocks xs (p_thread (held (fs ++ above)) a)
    thread_formed above fs a c h =
        WF-L-THREAD {L = held (fs ++ above)} {a = a}
        (λ o m. shut_locked xs o (omega (arith, h o, in_held o (fs ++ above) m, frames_append o fs above)))
        (as_many (locked_list a) (λ o. omega (arith, c o, h o, shut_at_le xs o)))
        (λ o m. held_in o (fs ++ above) (omega (arith, c o, in_set o (locked_list a) m, frames_append o fs above)))

    tree_formed : (above : List Frame) (t : Tree) → ((o : ℕ) → lock_frames o above + lock_count o t ≤ shut_at xs o) → WfLocks xs (read s bs above t)
    tree_formed above (running a e fs) h = thread_formed above fs _ (λ o. said_count o fs e a) h
    tree_formed above (returning v fs) h = thread_formed above fs _ (λ o. value_count o fs v) h
    tree_formed above failed h = WF-L-EXN
    tree_formed above (join fs a e l r) h =
        let L = read s bs (fs ++ above) l in
        let R = read s bs [] r in
        let A = plug s bs fs (said s bs e a) in
        let d : DistinctLocks A = as_many (locked_list A) (λ o. omega (arith, said_count o fs e a, h o, shut_at_le xs o)) in
        let apart : (o : ℕ) → o ∈ held_locks L → o ∈ held_locks R → ⊥ =
        λ o x y.
        omega (arith, h o, shut_at_le xs o, in_count o (held_locks L) x, in_count o (held_locks R) y, held_most o (fs ++ above) l, held_most o [] r, frames_append o fs above) in
        let lefts = tree_formed (fs ++ above) l (λ o. omega (arith, h o, frames_append o fs above)) in
        let rights = tree_formed [] r (λ o. omega (arith, h o)) in
        ⊎_elim
        (λ f. leftmost_failed f apart
        (λ o x y. omega (
          arith,
          h o,
          shut_at_le xs o,
          said_count o fs e a,
          in_set o (locked_list A) x,
          in_count o (held_locks L ++ held_locks R) y,
          count_append o (held_locks L) (held_locks R),
          held_failed o (fs ++ above) l f,
          held_most o [] r,
        ))
        d lefts rights)
        (λ k. WF-L-ASYNC apart
        (λ o x. count_in_lem o (held_locks L) (omega (arith, k o, said_count o fs e a, in_set o (locked_list A) x, frames_append o fs above)))
        d lefts rights)
        (leftmost_holds (fs ++ above) l)

-- The reading of a well-formed configuration is well formed with respect to locking: H ⊢lock T.
pub locks_formed : {s : Code} {w : Want} {c : Config} → WfConfig s w c → WfLocks (reading s c).world.heap (reading s c).threads
locks_formed {s} {c = c} h = tree_formed s c.stores.bindings c.stores.objects [] c.tree (λ o. omega (arith, h.distinct o))

-- What `distinct` asks of a configuration is what document 01 asks of the lock frames of its reading.
pub lock_frames_ok : (s : Code) (c : Config)
    → ((o : ℕ) → lock_count o c.tree ≤ shut_at c.stores.objects o) ↔ LockFramesOk (reading s c).world.heap (reading s c).threads
lock_frames_ok s c = (to, from)
  where
    xs : List Object
    xs = c.stores.objects

    T : PTree
    T = (reading s c).threads

    counts : (o : ℕ) → count_in o (all_locked T) ≡ lock_count o c.tree
    counts o = all_count s c.stores.bindings o [] c.tree

    to : ((o : ℕ) → lock_count o c.tree ≤ shut_at xs o) → LockFramesOk xs T
    to h =
        record {
          distinct = λ o. omega (arith, counts o, h o, shut_at_le xs o);
          shut = λ o m. shut_locked xs o (omega (arith, counts o, h o, in_count o (all_locked T) m));
        }

    from : LockFramesOk xs T → (o : ℕ) → lock_count o c.tree ≤ shut_at xs o
    from h o = go (dec_le 1 (lock_count o c.tree))
      where
        go : Dec (1 ≤ lock_count o c.tree) → lock_count o c.tree ≤ shut_at xs o
        go (no n) = omega arith
        go (yes y) =
            let k = h.shut o (count_in_lem o (all_locked T) (omega (arith, counts o))) in
            omega (arith, counts o, h.distinct o, shut_at_object xs o k.it k.there, ap one_if k.shut)
