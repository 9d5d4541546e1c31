-- The laws of H[ι ↦ ..] and F[f ↦ v], which the published rules and the moves are both written with: what is written is read back, and everything else is as it was.
use Prim.Native.Nat.{ℕ, zero, suc}
use native.Mathlib.Omega.{arith}
use mathlib.Core.Path.{◌≡◌, refl, sym, ◌∙◌}
use mathlib.Core.Bool.{Bool, true, false, cond}
use mathlib.Core.List.{List, [], ◌∷◌}
use mathlib.Core.Option.{some}
use lib.Dec.{eqb}
use borrow.Author.Tests.{eqb-true}
use Rattle.script.specs.Syntax.{Slot}
use Rattle.machine.specs.declared.Value.{Value}
use Rattle.machine.specs.Config.{Object}
use Rattle.machine.specs.Machine.{object, set_shut, set_fields, field_value, set_field}

-- F[f ↦ v](f) = v, where F has f
pub field_written : (v : Value) (ds : List Slot) (l : List Value) (f : ℕ) {w : Value} → field_value ds l f ≡ some w → field_value ds (set_field v ds l f) f ≡ some v
field_written v [] l f e = absurd (let z : ◌≡◌ {A = ℕ} 0 1 = cc in omega arith)
field_written v (d ∷ ds) [] f e = absurd (let z : ◌≡◌ {A = ℕ} 0 1 = cc in omega arith)
field_written v (d ∷ ds) (x ∷ l) f {w} e = go (eqb d.name f) refl e (field_written v ds l f)
  where
    go : (b : Bool) → eqb d.name f ≡ b → cond b (some x) (field_value ds l f) ≡ some w
        → (field_value ds l f ≡ some w → field_value ds (set_field v ds l f) f ≡ some v)
        → field_value (d ∷ ds) (cond b (v ∷ l) (x ∷ set_field v ds l f)) f ≡ some v
    go true q h rest = rw q
    go false q h rest = rw q (rest h)

-- F[f ↦ v](g) = F(g), for every other g
pub field_kept : (v : Value) (ds : List Slot) (l : List Value) (f g : ℕ) → (f ≡ g → ⊥) → field_value ds (set_field v ds l f) g ≡ field_value ds l g
field_kept v [] l f g n = refl
field_kept v (d ∷ ds) [] f g n = refl
field_kept v (d ∷ ds) (x ∷ l) f g n = go (eqb d.name f) refl (eqb d.name g) refl (field_kept v ds l f g n)
  where
    go : (b : Bool) → eqb d.name f ≡ b → (c : Bool) → eqb d.name g ≡ c → field_value ds (set_field v ds l f) g ≡ field_value ds l g
        → field_value (d ∷ ds) (cond b (v ∷ l) (x ∷ set_field v ds l f)) g ≡ cond c (some x) (field_value ds l g)
    go true q true r rest = absurd (n (sym (eqb-true d.name f q) ∙ eqb-true d.name g r))
    go true q false r rest = rw r
    go false q true r rest = rw r
    go false q false r rest = rw r rest

-- H[ι ↦ ..](ι): the object with its fields, or its lock, changed and the rest of it kept; other objects are as they were
pub fields_written : (l : List Value) (xs : List Object) (o : ℕ) (y : Object) → object xs o ≡ some y → object (set_fields l xs o) o ≡ some (record { class = y.class; shut = y.shut; fields = l })
fields_written l [] o y e = absurd (let z : ◌≡◌ {A = ℕ} 0 1 = cc in omega arith)
fields_written l (x ∷ xs) zero y e = let d : x ≡ y = cc in rw d
fields_written l (x ∷ xs) (suc o) y e = fields_written l xs o y e

pub fields_kept : (l : List Value) (xs : List Object) (o p : ℕ) → (o ≡ p → ⊥) → object (set_fields l xs o) p ≡ object xs p
fields_kept l [] o p n = refl
fields_kept l (x ∷ xs) zero zero n = absurd (n refl)
fields_kept l (x ∷ xs) zero (suc p) n = refl
fields_kept l (x ∷ xs) (suc o) zero n = refl
fields_kept l (x ∷ xs) (suc o) (suc p) n = fields_kept l xs o p (λ e. n (rw e))

pub shut_written : (b : Bool) (xs : List Object) (o : ℕ) (y : Object) → object xs o ≡ some y → object (set_shut b xs o) o ≡ some (record { class = y.class; shut = b; fields = y.fields })
shut_written b [] o y e = absurd (let z : ◌≡◌ {A = ℕ} 0 1 = cc in omega arith)
shut_written b (x ∷ xs) zero y e = let d : x ≡ y = cc in rw d
shut_written b (x ∷ xs) (suc o) y e = shut_written b xs o y e

pub shut_kept : (b : Bool) (xs : List Object) (o p : ℕ) → (o ≡ p → ⊥) → object (set_shut b xs o) p ≡ object xs p
shut_kept b [] o p n = refl
shut_kept b (x ∷ xs) zero zero n = absurd (n refl)
shut_kept b (x ∷ xs) zero (suc p) n = refl
shut_kept b (x ∷ xs) (suc o) zero n = refl
shut_kept b (x ∷ xs) (suc o) (suc p) n = shut_kept b xs o p (λ e. n (rw e))
