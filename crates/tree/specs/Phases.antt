-- How a side of a join stands, and what the join's move comes to.
use Rattle.std.specs.Prelude.{ℕ, ◌≡◌, List}
use Rattle.machine.specs.declared.Frame.{Frame}
use Rattle.machine.specs.Config as machine
use Rattle.machine.specs.Config.{Stores, running, failed, join}
use Rattle.machine.specs.Machine as machine-moves
use Rattle.machine.specs.Machine.{finished, broken, busy, Outcome, still, moved, phase, fold, size}
use Rattle.tree.specs.declared.Phase.{Phase}
use Rattle.tree.specs.declared.Phase.TheVariants.{Finished, Broken, Busy}
use Rattle.tree.specs.declared.Fold.{Fold}
use Rattle.tree.specs.declared.Fold.TheVariants.{Still, GoesOn, Fails}
use Rattle.tree.specs.declared.Entry.{Entry}
use Rattle.tree.specs.Entries.{root_entry}
use Rattle.tree.specs.Parts.{PartAt}

-- The machine's phase that each answer names.
abbrev pub phase_in : Phase → machine-moves.Phase
phase_in Finished = finished
phase_in Broken = broken
phase_in Busy = busy

-- "A join with both sides finished goes on ..; with a failed side it becomes failed": what each answer says of a join with these frames, this last part and
-- this environment.
abbrev pub outcome_of : Fold → Stores → List Frame → ℕ → ℕ → Outcome
outcome_of Still st fs a e = still
outcome_of GoesOn st fs a e = moved st (running a e fs)
outcome_of Fails st fs a e = moved st failed

-- The phase of every tree with this entry at its root.
abbrev pub PhaseIs : Entry → Phase → Type 0
PhaseIs x r = (u : machine.Tree) → x ≡ root_entry u → phase_in r ≡ phase u

-- What the machine says of a join whose sides stand so.
abbrev pub FoldIs : Phase → Phase → Fold → Type 0
FoldIs x y r = (st : Stores) (fs : List Frame) (a e : ℕ) → fold st fs a e (phase_in x) (phase_in y) ≡ outcome_of r st fs a e

-- The part at i as a join: the answer is what the machine's `fold` says. A thread has no such move.
pub record FoldAt (es : List Entry) (i : ℕ) (r : Fold) : Type 0 where
  pub joins : {before after : List Entry} {fs : List Frame} {a e : ℕ} {left right : machine.Tree} → PartAt es i before (join fs a e left right) after
      → (st : Stores) → fold st fs a e (phase left) (phase right) ≡ outcome_of r st fs a e
  pub threads : {before after : List Entry} {u : machine.Tree} → size u ≡ 1 → PartAt es i before u after → r ≡ Still
