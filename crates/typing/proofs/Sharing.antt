-- The test for shared variables decides whether two expressions share a free one.
use mathlib.Core.Path.{◌≡◌, refl, sym}
use mathlib.Core.List.Memᴰ
use mathlib.Core.List.{List, [], ◌∷◌}
use mathlib.Core.Logic.{◌⊎◌, ⊎_elim, inl, inr}
use Prim.Native.Nat.{ℕ}
use Rattle.script.specs.Lists.{◌∈◌}
use Rattle.script.specs.Asking.{Decides, fails}
use Rattle.script.proofs.Tests.{decides_as, decides_or, decides_eq}
use Rattle.script.specs.Syntax.{Expr}
use Rattle.typing.specs.Typing.{fv, is_in, shares}
use Rattle.typing.specs.Published.{Free}
use Rattle.typing.proofs.Free.{free_exactly}

decides_in : (x : ℕ) (m : List ℕ) → Decides (x ∈ m) (is_in x m)
unfolding is_in
decides_in x [] = fails Memᴰ.not-nil
decides_in x (y ∷ m) = decides_as here there (decides_or (decides_eq y x) (decides_in x m))
  where
    here : (y ≡ x) ⊎ (x ∈ m) → x ∈ y ∷ m
    here = ⊎_elim (λ e. Memᴰ.head (sym e)) Memᴰ.tail

    there : x ∈ y ∷ m → (y ≡ x) ⊎ (x ∈ m)
    there h = ⊎_elim (λ (e : x ≡ y). inl (sym e)) inr (Memᴰ.cases_cons h)

-- an element of both
record Shared (l m : List ℕ) : Type 0 where
  element : ℕ
  left : element ∈ l
  right : element ∈ m

decides_shares : (l m : List ℕ) → Decides (Shared l m) (shares l m)
unfolding shares
decides_shares [] m = fails (λ h. Memᴰ.not-nil h.left)
decides_shares (x ∷ l) m = decides_as here there (decides_or (decides_in x m) (decides_shares l m))
  where
    here : (x ∈ m) ⊎ Shared l m → Shared (x ∷ l) m
    here =
        ⊎_elim
        (λ h. record { element = x; left = Memᴰ.head refl; right = h })
        (λ h. record { element = h.element; left = Memᴰ.tail h.left; right = h.right })

    there : Shared (x ∷ l) m → (x ∈ m) ⊎ Shared l m
    there h =
        ⊎_elim
        (λ (e : h.element ≡ x). inl (rw e at h.right))
        (λ k. inr (record { element = h.element; left = k; right = h.right }))
        (Memᴰ.cases_cons h.left)

-- A variable that is free in both.
pub record SharedVariable (e₁ e₂ : Expr) : Type 0 where
  pub variable : ℕ
  pub left : Free variable e₁
  pub right : Free variable e₂

pub decides_sharing : (e₁ e₂ : Expr) → Decides (SharedVariable e₁ e₂) (shares (fv e₁) (fv e₂))
decides_sharing e₁ e₂ =
    decides_as
    (λ h. record { variable = h.element; left = (free_exactly _ e₁).0 h.left; right = (free_exactly _ e₂).0 h.right })
    (λ h. record { element = h.variable; left = (free_exactly _ e₁).1 h.left; right = (free_exactly _ e₂).1 h.right })
    (decides_shares (fv e₁) (fv e₂))
