-- Trees in which nothing can move, and the three ends.
use Rattle.std.specs.Prelude.{ℕ, ◌+◌, ◌≤◌, ◌≡◌, Bool, true, false, List, [], ◌⊎◌}
use Rattle.std.proofs.Math.Option.{Option, none, some}
use Rattle.script.specs.Syntax.{Point, n_lock}
use Rattle.machine.specs.declared.Ending.{Ending}
use Rattle.machine.specs.declared.Ending.TheVariants.{Finished, Failed, Deadlocked}
use Rattle.machine.specs.declared.Value.{Value}
use Rattle.machine.specs.declared.Value.TheVariants.{Ref as ref}
use Rattle.machine.specs.declared.Frame.{Frame}
use Rattle.machine.specs.Config.{Code, Stores, Tree, running, returning, failed, join, Config}
use Rattle.machine.specs.Machine.{ValueOf, lock_frames, Phase, finished, broken, busy, Path, here, left, right, part, At}
use Rattle.machine.specs.WellFormed.{shut_at}

-- "A thread waits when its move due is a lock on a shut object that it does not hold": this part of a tree, handed the frames above, waits for the object o.
pub data Waits (s : Code) (st : Stores) (above : List Frame) (o : ℕ) : Tree → Type 0 where
  waits : {n a : Point} {x e : ℕ} {fs : List Frame} → s.view n ≡ n_lock x a → ValueOf st e x (ref o) → shut_at st.objects o ≡ 1
      → lock_frames o fs + lock_frames o above ≡ 0 → Waits s st above o (running n e fs)

-- A thread, and a finished one: "A finished thread has a value and no frame."
pub data Thread : Tree → Type 0 where
  thread_running : {a : Point} {e : ℕ} {fs : List Frame} → Thread (running a e fs)
  thread_returning : {v : Value} {fs : List Frame} → Thread (returning v fs)
  thread_failed : Thread failed

pub data FinishedThread : Tree → Type 0 where
  has_value : {v : Value} → FinishedThread (returning v [])

-- By how many lock frames the thread at a place holds an object: "A thread holds exactly the objects of the lock frames it will resume (a join's are resumed by
-- its leftmost thread); a failed thread holds nothing". The number n counts those of the joins above. It is at least 1
-- exactly if the object is in the published set of that thread (`held_exactly`).
abbrev pub held_by : ℕ → ℕ → Tree → Path → ℕ
held_by o n (running a e fs) here = lock_frames o fs + n
held_by o n (running a e fs) (left p) = 0
held_by o n (running a e fs) (right p) = 0
held_by o n (returning v fs) here = lock_frames o fs + n
held_by o n (returning v fs) (left p) = 0
held_by o n (returning v fs) (right p) = 0
held_by o n failed p = 0
held_by o n (join fs a e l r) here = 0
held_by o n (join fs a e l r) (left p) = held_by o (lock_frames o fs + n) l p
held_by o n (join fs a e l r) (right p) = held_by o 0 r p

-- The thread u at the place p waits at a lock that another thread holds; '"Another" may be a finished thread.'
pub record Blocked (s : Code) (st : Stores) (t : Tree) (p : Path) (u : Tree) : Type 0 where
  pub object : ℕ
  pub handed : List Frame
  pub there : At [] t p handed u
  pub waiting : Waits s st handed object u
  pub holder : Path
  pub another : holder ≡ p → ⊥
  pub holds : 1 ≤ held_by object 0 t holder

-- Every thread is finished or waits at a lock that another holds, and at least one waits.
pub record Deadlock (s : Code) (st : Stores) (t : Tree) : Type 0 where
  pub every : (p : Path) (u : Tree) → part t p ≡ some u → Thread u → FinishedThread u ⊎ Blocked s st t p u
  pub place : Path
  pub thread : Tree
  pub waiting : Blocked s st t place thread

-- How a run has ended, if it has, by how the root stands and whether a position can move: "the root is a finished thread, .. the root is a failed thread, ..
-- neither and no position can move".
abbrev pub ending : Phase → Bool → Option Ending
ending finished q = some Finished
ending broken q = some Failed
ending busy true = none
ending busy false = some Deadlocked

-- The three ends of a run, said of the configuration.
pub data End (s : Code) (c : Config) : Ending → Type 0 where
  ends_finished : FinishedThread c.tree → ((o : ℕ) → shut_at c.stores.objects o ≡ 0) → End s c Finished
  ends_failed : c.tree ≡ failed → End s c Failed
  ends_deadlocked : Deadlock s c.stores c.tree → End s c Deadlocked
