-- Which positions cannot move: "A thread waits when its move due is a lock on a shut object that it does not hold; unless waiting, finished or failed, it can
-- move. A join can when both sides are finished threads or one is a failed thread."
use Rattle.std.specs.Prelude.{ℕ, ◌≡◌, List, []}
use Rattle.std.proofs.Math.Option.{none, some}
use Rattle.script.specs.Syntax.{Point}
use Rattle.machine.specs.declared.Value.{Value}
use Rattle.machine.specs.declared.Frame.{Frame}
use Rattle.machine.specs.Config.{Code, Stores, Tree, running, returning, failed, join, Config}
use Rattle.machine.specs.Machine.{Path, locate, At}
use Rattle.machine.specs.Ends.{Waits, FinishedThread}

-- A part of a tree, handed the frames above, that cannot move.
pub data StaysHere (s : Code) (st : Stores) (above : List Frame) : Tree → Type 0 where
  stays_waiting : {a : Point} {e o : ℕ} {fs : List Frame} → Waits s st above o (running a e fs) → StaysHere s st above (running a e fs)
  stays_finished : {v : Value} → StaysHere s st above (returning v [])
  stays_failed : StaysHere s st above failed
  stays_join : {fs : List Frame} {a : Point} {e : ℕ} {l r : Tree} → (FinishedThread l → FinishedThread r → ⊥) → (l ≡ failed → ⊥) → (r ≡ failed → ⊥)
      → StaysHere s st above (join fs a e l r)

-- "A position that is absent or cannot move"
pub data Stays (s : Code) (c : Config) (n : ℕ) : Type 0 where
  absent : locate c.tree n ≡ none → Stays s c n
  cannot_move : {p : Path} {above : List Frame} {u : Tree} → locate c.tree n ≡ some p → At [] c.tree p above u → StaysHere s c.stores above u
      → Stays s c n
