-- What a move of one position comes to in the block.
use Rattle.std.specs.Prelude.{ℕ, ◌≡◌, List, length}
use Rattle.std.proofs.Math.Option.{Option, none, some}
use Rattle.machine.specs.declared.Value.{Value}
use Rattle.machine.specs.declared.Frame.{Frame}
use Rattle.machine.specs.declared.Want.{Want}
use Rattle.machine.specs.declared.Store.{Store}
use Rattle.machine.specs.Config as machine
use Rattle.machine.specs.Config.{Code, code_of, Object, Stores, returning, Config}
use Rattle.typing.specs.Members.{fields_of}
use Rattle.machine.specs.Machine.{scope, find, object, Outcome, still, full, moved, Path, locate, part}
use Rattle.machine.specs.Accepted.{AcceptedCode}
use Rattle.machine.specs.WellFormed.{StoresOk, TreeOk}
use Rattle.block.specs.Values.{Storable}
use Rattle.std.specs.declared.option.Option.{Option as CodeOption}
use Rattle.std.specs.declared.option.Option.TheVariants.{Some, None}
use Rattle.environments.specs.Chains.{bindings_in, lookup_of}
use Rattle.state.specs.Represents.{Represents, Rest, StateAt}
use Rattle.moves.specs.declared.Effect.{Effect}
use Rattle.moves.specs.declared.Effect.TheVariants.{Still, Moved, Full}

-- The block and the answer after the machine's outcome for the part at position i, where the block was b; all else is x and stays. "that move not made"
pub data Performs (b : List ℕ) (i : ℕ) (x : Rest) : Outcome → List ℕ → Effect → Type 0 where
  performs_still : Performs b i x still b Still
  performs_full : {k : Store} → Performs b i x (full k) b (Full k)
  performs_moved : {after : List ℕ} {st : Stores} {w : machine.Tree} → StateAt after i x st w → Performs b i x (moved st w) after Moved

-- The block b is the configuration c, and choice i names the place p of the part u; all else is x.
pub record AtPosition (b : List ℕ) (i : ℕ) (c : Config) (p : Path) (u : machine.Tree) (x : Rest) : Type 0 where
  pub represents : Represents b c
  pub named : locate c.tree i ≡ some p
  pub there : part c.tree p ≡ some u
  pub seen : StateAt b i x c.stores u

-- The part at position i is a thread with the value v, in a configuration of the accepted script s that is formed.
pub record Resumes (s b : List ℕ) (i : ℕ) (v : Value) : Type 0 where
  pub config : Config
  pub path : Path
  pub frames : List Frame
  pub rest : Rest
  pub want : Want
  pub here : AtPosition b i config path (returning v frames) rest
  pub stores : StoresOk (code_of s) config.stores
  pub formed : TreeOk (code_of s) config.stores want (returning v frames)
  pub type : ℕ
  pub accepted : AcceptedCode (code_of s) type

-- "All words are unsigned 16-bit": what a variable of the environment holds is one.
abbrev pub WordBound : List ℕ → ℕ → Type 0
WordBound b env = (x : ℕ) (v : Value) → lookup_of (find (scope (bindings_in b) env) x) ≡ Some v → Storable v

-- Every object has a value for each field of its class.
abbrev pub OwnFields : Code → List Object → Type 0
OwnFields s xs = (o : ℕ) (y : Object) → object xs o ≡ some y → length y.fields ≡ length (fields_of s.program y.class)

-- What a look-up of a value answers, as the code says it.
abbrev pub value_found : Option Value → CodeOption Value
value_found none = None
value_found (some v) = Some v
