-- The sets L of the threads of a reading, beside H: "all lock frames name distinct objects, each of them shut".
use Rattle.std.specs.Prelude.{ℕ, ◌≡◌, true, List}
use Rattle.std.proofs.Math.Option.{some}
use Rattle.script.specs.Lists.{◌∈◌}
use Rattle.script.specs.Regular.{Unique}
use Rattle.machine.specs.Config.{Object}
use Rattle.machine.specs.Machine.{Path, here, left, right, object}
use Rattle.published.specs.Steps.{PExpr, PTree, p_thread, p_join}
use Rattle.published.specs.ReadAs.{Reading}

-- The thread at a place of T has the set L.
pub data SetAt : PTree → Path → List ℕ → Type 0 where
  set_here : {L : List ℕ} {a : PExpr} → SetAt (p_thread L a) here L
  set_left : {T U : PTree} {a : PExpr} {p : Path} {L : List ℕ} → SetAt T p L → SetAt (p_join T U a) (left p) L
  set_right : {T U : PTree} {a : PExpr} {p : Path} {L : List ℕ} → SetAt U p L → SetAt (p_join T U a) (right p) L

-- It has the object o in its set.
abbrev pub InSet : PTree → Path → ℕ → Type 0
InSet T p o = (L : List ℕ) × SetAt T p L × (o ∈ L)

-- An object of H whose lock is shut.
pub record Locked (H : List Object) (o : ℕ) : Type 0 where
  pub it : Object
  pub there : object H o ≡ some it
  pub shut : it.shut ≡ true

-- Every object in a set is locked in H, no set has an object twice, and no two threads have one object in their sets.
pub record LocksOk (r : Reading) : Type 0 where
  pub locked : (p : Path) (o : ℕ) → InSet r.threads p o → Locked r.world.heap o
  pub once : (p : Path) (L : List ℕ) → SetAt r.threads p L → Unique (λ o. o) L
  pub apart : (p q : Path) (o : ℕ) → InSet r.threads p o → InSet r.threads q o → p ≡ q
