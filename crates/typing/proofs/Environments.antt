-- Γ(x) = t, as the published rules say it, is what `type_in` finds.
use Prim.Native.Nat.{ℕ}
use native.Mathlib.Omega.{arith}
use native.Mathlib.Decide.{ℕ_discrete}
use mathlib.Core.Path.{◌≡◌, refl}
use mathlib.Core.Logic.{◌↔◌}
use mathlib.Core.List.{List, [], ◌∷◌}
use mathlib.Core.Option.{Option, none, some}
use borrow.Author.Tests.{eq-eqb, ne_eqb}
use Rattle.script.specs.Lists.{named}
use Rattle.script.specs.Syntax.{Slot}
use Rattle.typing.specs.Environments.{TypeOf, nearest, further}
use Rattle.typing.specs.Members.{type_in}

pub type_in_lem : {Γ : List Slot} {x t : ℕ} → TypeOf Γ x t → type_in Γ x ≡ some t
unfolding type_in named
type_in_lem (nearest {x = x}) = rw (eq-eqb x x refl)
type_in_lem (further {b = b} {x = x} n h) = rw (ne_eqb b.name x n) (type_in_lem h)

in_type : (Γ : List Slot) (x t : ℕ) → type_in Γ x ≡ some t → TypeOf Γ x t
unfolding type_in named
in_type [] x t e = absurd (let z : ◌≡◌ {A = ℕ} 0 1 = cc in omega arith)
in_type (b ∷ Γ) x t e = go (ℕ_discrete b.name x) (in_type Γ x t)
  where
    go : Dec (b.name ≡ x) → (type_in Γ x ≡ some t → TypeOf Γ x t) → TypeOf (b ∷ Γ) x t
    go (yes d) f = let h : some b.type ≡ some t = rw (eq-eqb b.name x d) at e in let k : b.type ≡ t = cc in rw (← d, ← k) nearest
    go (no n) f = further n (f (rw (ne_eqb b.name x n) at e))

-- Γ(x) = t exactly when `type_in` finds t, and there is no such t exactly when it finds none.
pub typed_exactly : (Γ : List Slot) (x t : ℕ) → (type_in Γ x ≡ some t) ↔ TypeOf Γ x t
typed_exactly Γ x t = (in_type Γ x t, type_in_lem)

pub untyped_exactly : (Γ : List Slot) (x : ℕ) → (type_in Γ x ≡ none) ↔ ((t : ℕ) → TypeOf Γ x t → ⊥)
untyped_exactly Γ x = (to, λ n. go n (type_in Γ x) refl)
  where
    to : type_in Γ x ≡ none → (t : ℕ) → TypeOf Γ x t → ⊥
    to e t h = let d = type_in_lem h in let z : ◌≡◌ {A = ℕ} 0 1 = cc in omega arith

    go : ((t : ℕ) → TypeOf Γ x t → ⊥) → (o : Option ℕ) → type_in Γ x ≡ o → o ≡ none
    go n none e = refl
    go n (some t) e = absurd (n t (in_type Γ x t e))
