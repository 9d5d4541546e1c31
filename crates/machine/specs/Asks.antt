-- Which object a thread's move due asks for a field or a method: "An object is asked for a field or method when a thread's move due is a read, a waiting write
-- or a waiting call with it as target."
use Rattle.std.specs.Prelude.{ℕ, ◌≡◌, List, ◌∷◌}
use Rattle.std.proofs.Math.Option.{some}
use Rattle.script.specs.Syntax.{Point, n_select, n_update, n_call}
use Rattle.machine.specs.declared.Value.{Value}
use Rattle.machine.specs.declared.Value.TheVariants.{Ref as ref}
use Rattle.machine.specs.declared.Frame.{Frame}
use Rattle.machine.specs.declared.Frame.TheVariants.{Awaits as awaits}
use Rattle.machine.specs.Config.{Code, Object, Stores, Tree, running, returning}
use Rattle.machine.specs.Machine.{ValueOf, object}

-- In this environment the variable holds this object.
pub record TargetObject (st : Stores) (e x : ℕ) (y : Object) : Type 0 where
  pub number : ℕ
  pub holds : ValueOf st e x (ref number)
  pub object : object st.objects number ≡ some y

-- The move due of this part of a tree is a read or a waiting write of the field f with y as target; a waiting call of the method m.
pub data AsksField (s : Code) (st : Stores) (f : ℕ) (y : Object) : Tree → Type 0 where
  reads : {a : Point} {x e : ℕ} {fs : List Frame} → s.view a ≡ n_select x f → TargetObject st e x y → AsksField s st f y (running a e fs)
  writes : {a b : Point} {x e : ℕ} {v : Value} {fs : List Frame} → s.view a ≡ n_update x f b → TargetObject st e x y
      → AsksField s st f y (returning v (awaits a e ∷ fs))

pub data AsksMethod (s : Code) (st : Stores) (m : ℕ) (y : Object) : Tree → Type 0 where
  invokes : {a b : Point} {x e : ℕ} {v : Value} {fs : List Frame} → s.view a ≡ n_call x m b → TargetObject st e x y
      → AsksMethod s st m y (returning v (awaits a e ∷ fs))
