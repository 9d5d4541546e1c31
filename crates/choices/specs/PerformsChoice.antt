-- What a choice comes to in the block, as a whole.
use Rattle.std.specs.Prelude.{◌≡◌, List, ◌∷◌, ℕ}
use Rattle.script.specs.Syntax.{Point, n_bind}
use Rattle.script.specs.Reading.{view_at}
use Rattle.members.specs.Code.{Blank}
use Rattle.machine.specs.declared.Value.{Value}
use Rattle.machine.specs.declared.Frame.{Frame}
use Rattle.machine.specs.declared.Want.{Want}
use Rattle.machine.specs.declared.Store.{Store}
use Rattle.machine.specs.Config as machine
use Rattle.machine.specs.Config.{code_of, Stores, returning, Config}
use Rattle.machine.specs.Machine.{Outcome, still, full, moved, limits, spare, wake, Path}
use Rattle.machine.specs.Accepted.{AcceptedCode}
use Rattle.machine.specs.WellFormed.{WfConfig}
use Rattle.environments.specs.Known.{Inferable}
use Rattle.state.specs.Represents.{Represents, Rest}
use Rattle.moves.specs.declared.Effect.{Effect}
use Rattle.moves.specs.declared.Effect.TheVariants.{Still, Moved, Full}
use Rattle.moves.specs.Performs.{Performs, AtPosition, OwnFields}

-- The block and the answer after the machine's outcome, where the block was b.
pub data PerformsChoice (b : List ℕ) : Outcome → List ℕ → Effect → Type 0 where
  choice_still : PerformsChoice b still b Still
  choice_full : {k : Store} → PerformsChoice b (full k) b (Full k)
  choice_moved : {after : List ℕ} {st : Stores} {t : machine.Tree} → Represents after (record { stores = st; tree = t })
      → PerformsChoice b (moved st t) after Moved

-- A blank table, an accepted script, and a formed configuration that the block is.
pub record FormedBlock (s table b : List ℕ) : Type 0 where
  pub blank : Blank table
  pub config : Config
  pub want : Want
  pub represents : Represents b config
  pub formed : WfConfig (code_of s) want config
  pub type : ℕ
  pub accepted : AcceptedCode (code_of s) type

-- The first part of a let that waits has a type under the bindings of the frame's environment: "(there must be one)".
abbrev pub FirstTyped : List ℕ → List ℕ → Point → ℕ → Type 0
FirstTyped s b n env = (x a body : ℕ) → view_at s n ≡ n_bind x a body → Inferable s b env a

-- A value v that meets a frame of node n in the environment env at position i: the block and the answer are those of the machine's `wake`, whatever the
-- configuration is.
abbrev pub Wakes : List ℕ → List ℕ → ℕ → Value → Point → ℕ → List ℕ → Effect → Type 0
Wakes s b i v n env after r =
    (c : Config) (p : Path) (x : Rest) (g : Frame) (fs : List Frame)
    → OwnFields (code_of s) c.stores.objects
    → AtPosition b i c p (returning v (g ∷ fs)) x
    → Performs b i x (wake (code_of s) (spare limits c.stores c.tree) c.stores v fs env (view_at s n)) after r
