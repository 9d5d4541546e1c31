-- What the moves of a thread with a value share: its frames still wait, a binding is added, the class of an object is read.
use mathlib.Core.Path.{◌≡◌}
use mathlib.Core.List.{List, [], ◌∷◌, ◌++◌}
use mathlib.Core.Option.{some}
use Prim.Native.Nat.{ℕ, ◌<◌}
use native.Mathlib.Omega.{arith}
use Rattle.words.specs.Word.{bytes}
use Rattle.machine.specs.Config as machine
use Rattle.machine.specs.Config.{Object, Binding, Stores}
use Rattle.machine.specs.Machine.{object}
use Rattle.block.specs.declared.Area.TheVariants.{Objects}
use Rattle.block.specs.Layout.{word_in}
use Rattle.block.specs.Block.{Parts, laid}
use Rattle.representation.specs.Changed.{with_bindings}
use Rattle.state.specs.Represents.{Rest, StateAt}
use Rattle.state.specs.Positions.{entry_at}
use Rattle.state.proofs.Seeing.{seen_waiting}
use Rattle.state.proofs.Moves.{lies}
use Rattle.moves.proofs.TargetLaws.{object_word}

-- as many frames wait there as before
pub still_waiting : {b c : List ℕ} {i : ℕ} {x : Rest} {st su : Stores} {u : machine.Tree} → StateAt b i x st u → StateAt c i x su u → 0 < (entry_at b i).frames → 0 < (entry_at c i).frames
still_waiting s t h = omega (arith, seen_waiting s, seen_waiting t)

-- what add_binding ensures, of the bytes b before and c after
abbrev pub Adds : List ℕ → List ℕ → Binding → Type 0
Adds b c y = (p : Parts) → b ≡ bytes (laid p) → c ≡ bytes (laid (with_bindings p (p.bindings ++ y ∷ [])))

module _ {b : List ℕ} {i : ℕ} {x : Rest} {st : Stores} {u : machine.Tree} (s : StateAt b i x st u) where
  -- the class of an object
  pub class_read : (o class : ℕ) (y : Object) → object st.objects o ≡ some y → class ≡ word_in b Objects o 0 → class ≡ y.class
  class_read o class y h e = object_word (lies s) y o 0 class s.block s.few h (omega arith) e
