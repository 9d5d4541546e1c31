-- The bindings that lie in a block, and the chain of an environment in it.
use Rattle.std.specs.Prelude.{ℕ, zero, suc, ◌+◌, ◌<◌, ◌≤◌, ◌≡◌, List, [], ◌∷◌, length, get_or}
use Rattle.std.proofs.Math.Option.{Option, none, some}
use Rattle.words.specs.Word.{WORD}
use Rattle.limits.specs.Limits.{BLOCK, BINDINGS}
use Rattle.script.specs.Syntax.{Slot}
use Rattle.typing.specs.Members.{type_in}
use Rattle.names.specs.Ranks.{RankOf}
use Rattle.inference.specs.Tables.{bound_word}
use Rattle.machine.specs.Config.{Binding}
use Rattle.machine.specs.Machine.{scope, find}
use Rattle.block.specs.declared.Area.TheVariants.{Bindings}
use Rattle.block.specs.Layout.{counted, word_in, TYPE, LINK}
use Rattle.block.specs.Decode.{binding_in}
use Rattle.machine.specs.declared.Value.{Value}
use Rattle.std.specs.declared.option.Option.{Option as CodeOption}
use Rattle.std.specs.declared.option.Option.TheVariants.{Some, None}

-- How many bindings a block says that it has, and the one with number i: "(name, type, value, the binding beneath)".
abbrev pub binding_count : List ℕ → ℕ
binding_count b = counted b Bindings

abbrev pub binding_at : List ℕ → ℕ → Binding
binding_at b i = binding_in (word_in b Bindings i)

-- The first n of numbered things, the last one first, as bindings stand in a configuration.
abbrev pub newest : {A : Type 0} → (ℕ → A) → ℕ → List A
newest f zero = []
newest f (suc n) = f n ∷ newest f n

unfoldable pub bindings_in : List ℕ → List Binding
bindings_in b = newest (binding_at b) (binding_count b)

-- "links run to earlier bindings", so the chain of the environment e ends.
pub record Chain (b : List ℕ) (e : ℕ) : Type 0 where
  pub long : length b ≡ BLOCK
  pub few : binding_count b ≤ BINDINGS
  pub links : (i : ℕ) → i < binding_count b → word_in b Bindings i LINK ≤ i
  pub within : e ≤ binding_count b

-- What a look-up answers, as the code says it.
abbrev pub lookup_of : Option Binding → CodeOption Value
lookup_of none = None
lookup_of (some x) = Some x.value

-- The number of the nearest binding of the variable x in the environment e, as the code says it.
pub data Nearest (b : List ℕ) (e x : ℕ) : CodeOption ℕ → Type 0 where
  bound_at : {i : ℕ} → i < binding_count b → find (scope (bindings_in b) e) x ≡ some (binding_at b i) → Nearest b e x (Some i)
  unbound : find (scope (bindings_in b) e) x ≡ none → Nearest b e x None

-- Every binding's type is less than the last word, so that one more than it is a word.
abbrev pub Typed : List ℕ → Type 0
Typed b = (i : ℕ) → i < binding_count b → word_in b Bindings i TYPE + 1 < WORD

-- A table of an environment: at the rank of each variable, its type as the nearest binding says.
abbrev pub Filled : List ℕ → List ℕ → List ℕ → List Slot → Type 0
Filled s facts table Γ = (x k : ℕ) → RankOf s facts x k → get_or table k 0 ≡ bound_word (type_in Γ x)

-- The word that is stored for a name, or if none is, the other.
abbrev pub stored_or : ℕ → ℕ → ℕ
stored_or zero n = n
stored_or (suc m) n = suc m

-- A table after a variable's type is noted.
pub record TypeStored (s facts table : List ℕ) (name type : ℕ) (after : List ℕ) : Type 0 where
  pub size : length after ≡ length table
  pub here : (k : ℕ) → RankOf s facts name k → get_or after k 0 ≡ stored_or (get_or table k 0) (suc type)
  pub elsewhere : (x k : ℕ) → RankOf s facts x k → (x ≡ name → ⊥) → get_or after k 0 ≡ get_or table k 0
