-- Subtyping as it is computed is the published one.
use mathlib.Core.Path.{◌≡◌, refl}
use mathlib.Core.Bool.{Bool, true, false, ◌||◌}
use mathlib.Core.List.{List}
use mathlib.Core.Logic.{◌↔◌, ◌⊎◌, ⊎_elim, inl, inr}
use Prim.Native.Nat.{ℕ}
use lib.Dec.{eqb}
use Rattle.script.specs.Syntax.{Signature, lists, extends, Program, Declaration, a_unit, an_interface, a_class, an_int, no_type, declaration_at}
use Rattle.script.specs.Asking.{Decides, fails}
use Rattle.script.specs.Regular.{IsType, IsInterface, Regular}
use Rattle.script.proofs.Tests.{says_yes, yes_said, decides_as, decides_or, decides_eq}
use Rattle.script.proofs.Declarations.{is_interface}
use Rattle.typing.specs.Members.{reach, reach_from, below}
use Rattle.typing.specs.Published.{WfType, T-WF-CLASS, Sub, T-SUB-CLASS, T-SUB-INTERFACE-LEFT, T-SUB-INTERFACE-RIGHT, T-SUB-TRANS, T-SUB-EQ}
use Rattle.typing.proofs.Types.{type_wf, interface_wf, parent_types, from_parents}
use Rattle.typing.proofs.Values.{value_lists, value_extends}

-- the ways to go from a type to another one above it, by its declaration
abbrev Above : Program → ℕ → Declaration → Type 0
Above p u a_unit = ⊥
Above p u (an_interface (lists gs)) = ⊥
Above p u (an_interface (extends a b)) = Sub p a u ⊎ Sub p b u
Above p u (a_class c) = Sub p c.implements u
Above p u an_int = ⊥
Above p u no_type = ⊥

above_more : {p : Program} {u v : ℕ} → Sub p u v → (d : Declaration) → Above p u d → Above p v d
above_more s (an_interface (extends a b)) (inl x) = inl (T-SUB-TRANS x s)
above_more s (an_interface (extends a b)) (inr x) = inr (T-SUB-TRANS x s)
above_more s (a_class c) x = T-SUB-TRANS x s
above_more {p = p} {u = u} {v = v} s a_unit x = elim x [ ]
above_more {p = p} {u = u} {v = v} s (an_interface (lists _)) x = elim x [ ]
above_more {p = p} {u = u} {v = v} s an_int x = elim x [ ]
above_more {p = p} {u = u} {v = v} s no_type x = elim x [ ]

above_sub : {p : Program} {t u : ℕ} (d : Declaration) → declaration_at p t ≡ d → Above p u d → Sub p t u
above_sub (an_interface (extends a b)) e (inl x) = T-SUB-TRANS (T-SUB-INTERFACE-LEFT e) x
above_sub (an_interface (extends a b)) e (inr x) = T-SUB-TRANS (T-SUB-INTERFACE-RIGHT e) x
above_sub (a_class c) e x = T-SUB-TRANS (T-SUB-CLASS e) x
above_sub {p = p} {t = t} {u = u} a_unit e x = elim x [ ]
above_sub {p = p} {t = t} {u = u} (an_interface (lists _)) e x = elim x [ ]
above_sub {p = p} {t = t} {u = u} an_int e x = elim x [ ]
above_sub {p = p} {t = t} {u = u} no_type e x = elim x [ ]

module _ (p : Program) (ok : Regular p) where
  -- Both sides of a subtyping are types.
  pub sub_types : {t u : ℕ} → Sub p t u → WfType p t × WfType p u
  sub_types {t} {u} (T-SUB-CLASS {c = c} e) = (T-WF-CLASS e, interface_wf p u (ok.classes t c e).interface)
  sub_types {t} {u} (T-SUB-INTERFACE-LEFT {i₁ = a} {i₂ = b} e) = (interface_wf p t (is_interface p t (extends a b) e), interface_wf p u (parent_types p ok t a b e).0)
  sub_types {t} {u} (T-SUB-INTERFACE-RIGHT {i₁ = a} {i₂ = b} e) = (interface_wf p t (is_interface p t (extends a b) e), interface_wf p u (parent_types p ok t a b e).1)
  sub_types (T-SUB-TRANS r s) = ((sub_types r).0, (sub_types s).1)
  sub_types (T-SUB-EQ w) = (w, w)

  -- a subtyping is an equation or one of the ways
  first_step : {t u : ℕ} → Sub p t u → (t ≡ u) ⊎ Above p u (declaration_at p t)
  first_step (T-SUB-CLASS e) = rw e (inr (T-SUB-EQ (sub_types (T-SUB-CLASS e)).1))
  first_step (T-SUB-INTERFACE-LEFT e) = rw e (inr (inl (T-SUB-EQ (sub_types (T-SUB-INTERFACE-LEFT e)).1)))
  first_step (T-SUB-INTERFACE-RIGHT e) = rw e (inr (inr (T-SUB-EQ (sub_types (T-SUB-INTERFACE-RIGHT e)).1)))
  first_step (T-SUB-TRANS {t₁} {t₂} r s) = ⊎_elim (λ (q : t₁ ≡ t₂). rw q (first_step s)) (λ x. inr (above_more s (declaration_at p t₁) x)) (first_step r)
  first_step (T-SUB-EQ w) = inl refl

  same_sub : {t u : ℕ} → WfType p t → t ≡ u → Sub p t u
  same_sub w e = rw (← e) (T-SUB-EQ w)

  -- so a test of the ways decides it
  stepped : {t u : ℕ} {b : Bool} (d : Declaration) → declaration_at p t ≡ d → WfType p t → Decides ((t ≡ u) ⊎ Above p u d) b → Decides (Sub p t u) b
  stepped d e w = decides_as (⊎_elim (same_sub w) (above_sub d e)) (λ s. rw e at (first_step s))

  -- `reach` decides it of interfaces
  decides_reach : (u t : ℕ) → IsInterface p t → Decides (Sub p t u) (reach p t u)
  unfolding reach
  decides_reach u = from_parents p ok (λ t. Decides (Sub p t u) (reach p t u)) list join
    where
      list : (t : ℕ) (gs : List Signature) → declaration_at p t ≡ an_interface (lists gs) → Decides (Sub p t u) (reach p t u)
      list t gs e =
          rw (value_lists (λ v gs. eqb v u) (λ v a b. eqb v u || (a || b)) false p t gs e)
          (stepped (an_interface (lists gs)) e (interface_wf p t (is_interface p t (lists gs) e)) (decides_as inl (⊎_elim (λ q. q) absurd) (decides_eq t u)))

      join : (t a b : ℕ) → declaration_at p t ≡ an_interface (extends a b) → Decides (Sub p a u) (reach p a u) → Decides (Sub p b u) (reach p b u) → Decides (Sub p t u) (reach p t u)
      join t a b e x y =
          rw (value_extends (λ v gs. eqb v u) (λ v a b. eqb v u || (a || b)) false p ok t a b e)
          (stepped (an_interface (extends a b)) e (interface_wf p t (is_interface p t (extends a b) e)) (decides_or (decides_eq t u) (decides_or x y)))

  -- `below` says of a type whether it is a subtype of another.
  pub decides_below : (t u : ℕ) → IsType p t → Decides (Sub p t u) (below p t u)
  unfolding below
  decides_below t u h = go (declaration_at p t) refl
    where
      w : WfType p t
      w = (type_wf p t).0 h

      go : (d : Declaration) → declaration_at p t ≡ d → Decides (Sub p t u) (eqb t u || reach_from p t u d)
      go a_unit e = stepped a_unit e w (decides_or (decides_eq t u) (fails absurd))
      go (an_interface i) e = decides_as (⊎_elim (same_sub w) (λ s. s)) inr (decides_or (decides_eq t u) (decides_reach u t (is_interface p t i e)))
      go (a_class c) e = stepped (a_class c) e w (decides_or (decides_eq t u) (decides_reach u c.implements (ok.classes t c e).interface))
      go an_int e = stepped an_int e w (decides_or (decides_eq t u) (fails absurd))
      go no_type e = stepped no_type e w (decides_or (decides_eq t u) (fails absurd))

  pub below_sub : (t u : ℕ) → IsType p t → (below p t u ≡ true) ↔ Sub p t u
  below_sub t u h = (says_yes (decides_below t u h), yes_said (decides_below t u h))
