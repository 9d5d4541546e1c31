-- What demand 3 says of a configuration, and of what stays from one to another.
use Rattle.std.specs.Prelude.{ℕ, ◌≤◌, ◌≡◌, List, ◌++◌, ◌⊎◌}
use Rattle.std.proofs.Math.Option.{Option, none, some}
use Rattle.script.specs.Lists.{◌∈◌}
use Rattle.typing.specs.Published.{FieldIn, MsigIn}
use Rattle.machine.specs.declared.Ending.{Ending}
use Rattle.machine.specs.declared.Value.{Value}
use Rattle.machine.specs.Config.{Code, Object, Binding, Tree, failed, Config}
use Rattle.typing.specs.Members.{fields_of}
use Rattle.machine.specs.Machine.{object, field_value, Places, still, Path, locate, choice, part}
use Rattle.machine.specs.declared.Want.TheVariants.{Upto as upto}
use Rattle.machine.specs.WellFormed.{ValueFits}
use Rattle.machine.specs.Ends.{held_by, End}
use Rattle.machine.specs.Asks.{AsksField, AsksMethod}
use Rattle.machine.specs.OnNull.{Fails}

pub record Promised (s : Code) (lim : Places) (c : Config) : Type 0 where
  -- every read, waiting write and waiting call due on an object names a field or method that its class has
  pub field_asked : (f : ℕ) (y : Object) (p : Path) (t : Tree) → part c.tree p ≡ some t → AsksField s c.stores f y t
      → (u : ℕ) × FieldIn s.program y.class f u
  pub method_asked : (m : ℕ) (y : Object) (p : Path) (t : Tree) → part c.tree p ≡ some t → AsksMethod s c.stores m y t
      → (t u : ℕ) × MsigIn s.program y.class (record { name = m; param = t; result = u })
  -- every binding and field holds a number if its type is Int, and else null or an object whose class is below its type
  pub binding_typed : (b : Binding) → b ∈ c.stores.bindings → ValueFits s c.stores.objects b.value (upto b.type)
  pub field_typed : (o : ℕ) (y : Object) (f u : ℕ) (v : Value) → object c.stores.objects o ≡ some y → FieldIn s.program y.class f u
      → field_value (fields_of s.program y.class) y.fields f ≡ some v → ValueFits s c.stores.objects v (upto u)
  -- no two threads hold one lock
  pub exclusive : (o : ℕ) (p q : Path) → 1 ≤ held_by o 0 c.tree p → 1 ≤ held_by o 0 c.tree q → p ≡ q
  -- if no position can move, it is one of the three ends
  pub ended : ((n : ℕ) → choice s lim c n ≡ still) → (k : Ending) × End s c k

-- Object o is still there, and has the class that it had.
pub record SameClass (ys : List Object) (o : ℕ) (x : Object) : Type 0 where
  pub later : Object
  pub there : object ys o ≡ some later
  pub class : later.class ≡ x.class

abbrev pub KeepsObjects : List Object → List Object → Type 0
KeepsObjects xs ys = (o : ℕ) (x : Object) → object xs o ≡ some x → SameClass ys o x

-- "Objects and bindings are never freed": a binding once there keeps its name, type, value and link, the older bindings standing behind; an object once there
-- keeps its number and its class.
pub record Kept (c d : Config) : Type 0 where
  pub added : List Binding
  pub there : d.stores.bindings ≡ added ++ c.stores.bindings
  pub objects : KeepsObjects c.stores.objects d.stores.objects

-- The choice names this place of the tree. A Start is no choice and names none.
abbrev pub NamesPlace : Tree → Option ℕ → Path → Type 0
NamesPlace t none q = ⊥
NamesPlace t (some n) q = locate t n ≡ some q

-- A thread that is failed in e, one choice after d, was so in d; or that choice names its very place, where in d a thread stood before a null target, a sum
-- outside the range or a join with a failed side.
abbrev pub FailsOnNull : Code → Option ℕ → Config → Config → Type 0
FailsOnNull s o d e =
    (q : Path) → part e.tree q ≡ some failed
    → (part d.tree q ≡ some failed) ⊎ (NamesPlace d.tree o q × (t : Tree) × (part d.tree q ≡ some t) × Fails s d.stores t)
