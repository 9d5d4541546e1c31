-- What is asked where a value meets the innermost frame of its thread.
use Rattle.std.specs.Prelude.{ℕ, ◌<◌, List}
use Rattle.script.specs.Reading.{program_of}
use Rattle.typing.specs.Published.{WfEnv}
use Rattle.members.specs.Code.{Blank}
use Rattle.machine.specs.declared.Value.{Value}
use Rattle.machine.specs.Machine.{context}
use Rattle.block.specs.Values.{Storable}
use Rattle.environments.specs.Chains.{Chain, Typed, bindings_in}
use Rattle.state.specs.Represents.{SomeState}
use Rattle.state.specs.Positions.{entry_at}

-- A value that is a word, and a frame at position i.
pub record AtFrame (b : List ℕ) (i : ℕ) (v : Value) : Type 0 where
  pub here : SomeState b i
  pub waiting : 0 < (entry_at b i).frames
  pub word : Storable v

-- The frame has the environment env: a write or a call looks its target up there.
pub record AtFrameIn (b : List ℕ) (i env : ℕ) (v : Value) : Type 0 where
  pub chain : Chain b env
  pub frame : AtFrame b i v

-- The variables of the environment have types: a let's first part is inferred under them.
pub record AtTypedFrame (s table b : List ℕ) (i env : ℕ) (v : Value) : Type 0 where
  pub blank : Blank table
  pub chain : Chain b env
  pub typed : Typed b
  pub types : WfEnv (program_of s) (context (bindings_in b) env)
  pub frame : AtFrame b i v
