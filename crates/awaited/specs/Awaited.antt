-- What a waiting node waits for and gives, and what the code that asks is lent.
use Rattle.std.specs.Prelude.{ℕ, ◌+◌, ◌<◌, ◌≤◌, ◌≡◌, Bool, false, List}
use Rattle.std.proofs.Math.Option.{Option, none, some}
use Rattle.limits.specs.Limits.{INTERFACES, CLASSES}
use Rattle.script.specs.declared.Section.TheVariants.{Nodes as nodes}
use Rattle.script.specs.Section.{count_of}
use Rattle.script.specs.Syntax.{Point}
use Rattle.script.specs.Reading.{view_at, program_of}
use Rattle.script.specs.Regular.{IsType}
use Rattle.inference.specs.declared.Given.{Given}
use Rattle.inference.specs.declared.Given.TheVariants.{Typed as typed_at, Null as null-at}
use Rattle.machine.specs.declared.Want.{Want}
use Rattle.machine.specs.declared.Want.TheVariants.{Upto as upto}
use Rattle.machine.specs.Config.{Code, code_of}
use Rattle.machine.specs.Machine.{field_count, context}
use Rattle.machine.specs.Decide.{only, meets_test, null_meets_test, wants, awaited}
use Rattle.block.specs.declared.Area.TheVariants.{Bindings}
use Rattle.block.specs.Layout.{word_in, TYPE, LINK}
use Rattle.representation.specs.InOrder.{InOrder}
use Rattle.environments.specs.Chains.{binding_count, bindings_in}
use Rattle.std.specs.declared.option.Option.{Option as CodeOption}
use Rattle.std.specs.declared.option.Option.TheVariants.{Some, None}
use Rattle.std.specs.declared.result.Result.{Result}
use Rattle.std.specs.declared.result.Result.TheVariants.{Ok, Err}
use Rattle.typing.specs.declared.Fault.{Fault}
use Rattle.awaited.specs.declared.Waits.{Waits}
use Rattle.awaited.specs.declared.Waits.TheVariants.{For, ForNull}

-- What is expected, as the code says it.
abbrev pub expects_of : Option Want → CodeOption Want
expects_of none = None
expects_of (some w) = Some w

-- What is expected above a frame that waits so, where v is expected beneath it.
abbrev pub wants_of : Code → Want → CodeOption Waits → Option Want
wants_of s v None = none
wants_of s v (Some (For t u)) = wants s u v t
wants_of s v (Some (ForNull t)) = only (null_meets_test s v) (some (upto t))

-- Does what a node gives meet what is expected? A null meets all but Int.
abbrev pub given_test : Code → Result Given Fault → Want → Bool
given_test s (Ok (typed_at t n)) v = meets_test s t v
given_test s (Ok (null-at n)) v = null_meets_test s v
given_test s (Err f) v = false

-- What a let waits for whose first part has type t, by what the whole let gives.
abbrev pub waits_by : ℕ → Given → Waits
waits_by t (typed_at u n) = For t u
waits_by t (null-at n) = ForNull t

-- A type that is given is one of the few.
abbrev pub GivesSmall : CodeOption Waits → Type 0
GivesSmall r = (t u : ℕ) → r ≡ Some (For t u) → u ≤ INTERFACES + CLASSES + 1

-- What node n waits for in the environment e of the block b, whatever is expected beneath its frame.
abbrev pub WaitsAs : List ℕ → List ℕ → Point → ℕ → CodeOption Waits → Type 0
WaitsAs s b n e r = (v : Want) → awaited (code_of s) (context (bindings_in b) e) (view_at s n) v ≡ wants_of (code_of s) v r

-- What the code is lent beside the script and its tables: a block in order whose bindings link to earlier ones and have types.
pub record ScopedBlock (s b : List ℕ) : Type 0 where
  pub in_order : InOrder (field_count s) b
  pub links : (i : ℕ) → i < binding_count b → word_in b Bindings i LINK ≤ i
  pub types : (i : ℕ) → i < binding_count b → IsType (program_of s) (word_in b Bindings i TYPE)

-- Node n is one of the script's, and e an environment of the block.
pub record NodeUnder (s b : List ℕ) (n : Point) (e : ℕ) : Type 0 where
  pub node : n < count_of s nodes
  pub environment : e ≤ binding_count b
