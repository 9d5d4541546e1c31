-- The values of an object by the numbers of their fields: a field read, and a field stored.
use mathlib.Core.Path.{◌≡◌, refl, ap}
use mathlib.Core.Bool.{Bool, true, false, cond}
use mathlib.Core.List.{List, [], ◌∷◌}
use mathlib.Core.Option.{Option, none, some, map}
use Prim.Native.Nat.{ℕ, suc}
use native.Mathlib.Omega.{arith}
use lib.Dec.{eqb}
use lib.ListN.{length, get_or, set}
use Rattle.script.specs.Syntax.{Slot}
use Rattle.machine.specs.declared.Value.{Value}
use Rattle.machine.specs.declared.Value.TheVariants.{Null as nil}
use Rattle.machine.specs.Machine.{field_value, set_field}
use Rattle.classes.specs.Defined.{field_number}

-- F(f): what stands at the number of f, if it has one.
value_numbered : (ds : List Slot) (l : List Value) (f : ℕ) → length l ≡ length ds → field_value ds l f ≡ map (λ k. get_or l k nil) (field_number ds f)
value_numbered [] l f h = refl
value_numbered (d ∷ ds) [] f h = absurd (omega arith)
value_numbered (d ∷ ds) (v ∷ l) f h = go (eqb d.name f) (field_number ds f) (value_numbered ds l f (omega arith))
  where
    go :
        (b : Bool) (r : Option ℕ) → field_value ds l f ≡ map (λ k. get_or l k nil) r
        → cond b (some v) (field_value ds l f) ≡ map (λ k. get_or (v ∷ l) k nil) (cond b (some 0) (map suc r))
    go true r e = refl
    go false none e = e
    go false (some k) e = e

pub value_none : (ds : List Slot) (l : List Value) (f : ℕ) → field_number ds f ≡ none → field_value ds l f ≡ none
value_none [] l f e = refl
value_none (d ∷ ds) [] f e = refl
value_none (d ∷ ds) (v ∷ l) f e = go (eqb d.name f) (field_number ds f) (value_none ds l f) e
  where
    go :
        (b : Bool) (r : Option ℕ) → (r ≡ none → field_value ds l f ≡ none)
        → cond b (some 0) (map suc r) ≡ none → cond b (some v) (field_value ds l f) ≡ none
    go true r h q = absurd (let z : ◌≡◌ {A = ℕ} 0 1 = cc in omega arith)
    go false none h q = h refl
    go false (some k) h q = absurd (let z : ◌≡◌ {A = ℕ} 0 1 = cc in omega arith)

-- F[f ↦ v]: v put where f has its number, if it has one.
abbrev put_at : Value → List Value → Option ℕ → List Value
put_at x l none = l
put_at x l (some k) = set l k x

field_set : (x : Value) (ds : List Slot) (l : List Value) (f : ℕ) → set_field x ds l f ≡ put_at x l (field_number ds f)
field_set x [] l f = refl
field_set x (d ∷ ds) [] f = go (field_number (d ∷ ds) f)
  where
    go : (r : Option ℕ) → [] ≡ put_at x [] r
    go none = refl
    go (some k) = refl
field_set x (d ∷ ds) (v ∷ l) f = go (eqb d.name f) (field_number ds f) (field_set x ds l f)
  where
    go :
        (b : Bool) (r : Option ℕ) → set_field x ds l f ≡ put_at x l r
        → cond b (x ∷ l) (v ∷ set_field x ds l f) ≡ put_at x (v ∷ l) (cond b (some 0) (map suc r))
    go true r e = refl
    go false none e = ap (◌∷◌ v) e
    go false (some k) e = ap (◌∷◌ v) e

-- So the code may read and store a field by its number.
module _ (ds : List Slot) (l : List Value) (f : ℕ) where
  pub value_at_lem : (k : ℕ) → field_number ds f ≡ some k → length l ≡ length ds → field_value ds l f ≡ some (get_or l k nil)
  value_at_lem k e h = rw (value_numbered ds l f h, e)

  pub set_at : (x : Value) (k : ℕ) → field_number ds f ≡ some k → set_field x ds l f ≡ set l k x
  set_at x k e = rw (field_set x ds l f, e)

  pub set_none : (x : Value) → field_number ds f ≡ none → set_field x ds l f ≡ l
  set_none x e = rw (field_set x ds l f, e)
