-- Environments and uses: what the published rules and the walk both say of them. Nothing here is a computed answer.
use Rattle.std.specs.Prelude.{ℕ, ◌≡◌, List, [], ◌∷◌}
use Rattle.script.specs.Syntax.{Slot, Signature}

-- Γ(x) = t: "the nearest binding counts".
pub data TypeOf : List Slot → ℕ → ℕ → Type 0 where
  nearest : {Γ : List Slot} {x t : ℕ} → TypeOf (record { name = x; type = t } ∷ Γ) x t
  further : {Γ : List Slot} {b : Slot} {x t : ℕ} → (b.name ≡ x → ⊥) → TypeOf Γ x t → TypeOf (b ∷ Γ) x t

-- this : C, x : t, with "Variable 0 is `this`, 1 the parameter"
abbrev pub body_env : ℕ → Signature → List Slot
body_env c g = record { name = 1; type = g.param } ∷ record { name = 0; type = c } ∷ []

-- What a node does with its target: it reads or writes field f of a class c, calls method m of a type t, or locks an object of type t.
pub data Use : Type 0 where
  of_field : (c f : ℕ) → Use
  of_method : (t m : ℕ) → Use
  of_lock : (t : ℕ) → Use
