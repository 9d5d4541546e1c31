-- H ⊢lock T: the lock rules of Figure 7, with locks, distinctLocks and held_locks of appendix A.3. Each rule keeps its name.
use Rattle.std.specs.Prelude.{ℕ, ◌≤◌, ◌≡◌, List, [], ◌∷◌, ◌++◌, length}
use Rattle.script.specs.Lists.{◌∈◌, count_in}
use Rattle.machine.specs.Config.{Object}
use Rattle.published.specs.Steps.{PExpr, p_value, p_var, p_select, p_update, p_call, p_let, p_new, p_cast, p_fork, p_lock, p_locked, p_add}
use Rattle.published.specs.Steps.{PTree, p_thread, p_join, p_failed, remove}
use Rattle.published.specs.HeldLocks.{Locked}

-- lock_list(e) = [ι | lockedι{e'} ∈ e]
abbrev pub locked_list : PExpr → List ℕ
locked_list (p_value v) = []
locked_list (p_var x) = []
locked_list (p_select x f) = []
locked_list (p_update x f a) = locked_list a
locked_list (p_call x m a) = locked_list a
locked_list (p_let x a b) = locked_list a ++ locked_list b
locked_list (p_new c) = []
locked_list (p_cast t a) = locked_list a
locked_list (p_fork a b c) = locked_list a ++ (locked_list b ++ locked_list c)
locked_list (p_lock x a) = locked_list a
locked_list (p_locked o a) = o ∷ locked_list a
locked_list (p_add x y) = []

-- The set of a list's elements: the list with each of them once.
abbrev pub as_set : List ℕ → List ℕ
as_set [] = []
as_set (o ∷ l) = o ∷ remove o (as_set l)

-- locks(e) = {ι | lockedι{e'} ∈ e}
abbrev pub locked_set : PExpr → List ℕ
locked_set a = as_set (locked_list a)

-- distinctLocks(e) ≡ |locks(e)| = |lock_list(e)|
abbrev pub DistinctLocks : PExpr → Type 0
DistinctLocks a = length (locked_set a) ≡ length (locked_list a)

-- held_locks(T). The paper has no line for EXN; document 01 has: "a failed thread holds nothing".
abbrev pub held_locks : PTree → List ℕ
held_locks (p_thread L a) = L
held_locks (p_join T U a) = held_locks T ++ held_locks U
held_locks p_failed = []

-- The leftmost thread of T has failed.
pub data LeftmostFailed : PTree → Type 0 where
  leftmost_here : LeftmostFailed p_failed
  leftmost_left : {T U : PTree} {a : PExpr} → LeftmostFailed T → LeftmostFailed (p_join T U a)

-- H ⊢lock T
pub data WfLocks (H : List Object) : PTree → Type 0 where
  WF-L-THREAD : {L : List ℕ} {a : PExpr} → ((o : ℕ) → o ∈ L → Locked H o) → DistinctLocks a → ((o : ℕ) → o ∈ locked_set a → o ∈ L)
      → WfLocks H (p_thread L a)
  WF-L-ASYNC : {T U : PTree} {a : PExpr} → ((o : ℕ) → o ∈ held_locks T → o ∈ held_locks U → ⊥) → ((o : ℕ) → o ∈ locked_set a → o ∈ held_locks T)
      → DistinctLocks a → WfLocks H T → WfLocks H U → WfLocks H (p_join T U a)
  WF-L-EXN : WfLocks H p_failed
  -- No rule of Figure 7, but document 01's one departure from WF-L-ASYNC: "a failed thread holds nothing, so where it is a join's leftmost, nobody holds the
  -- objects of the join's lock frames, and that is well formed whatever Figure 7 asks of the left side". Only the second premise differs.
  leftmost_failed : {T U : PTree} {a : PExpr} → LeftmostFailed T → ((o : ℕ) → o ∈ held_locks T → o ∈ held_locks U → ⊥)
      → ((o : ℕ) → o ∈ locked_set a → o ∈ held_locks T ++ held_locks U → ⊥) → DistinctLocks a → WfLocks H T → WfLocks H U → WfLocks H (p_join T U a)

-- What document 01 asks beyond Figure 7, where a join's last part may have a lockedι that the left side has too: "all lock frames name distinct objects, each
-- of them shut". The lock frames of a tree are the lockedι of all its expressions.
abbrev pub all_locked : PTree → List ℕ
all_locked (p_thread L a) = locked_list a
all_locked (p_join T U a) = locked_list a ++ (all_locked T ++ all_locked U)
all_locked p_failed = []

pub record LockFramesOk (H : List Object) (T : PTree) : Type 0 where
  pub distinct : (o : ℕ) → count_in o (all_locked T) ≤ 1
  pub shut : (o : ℕ) → o ∈ all_locked T → Locked H o
