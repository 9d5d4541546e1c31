-- The types of a program, and induction over its interfaces.
use mathlib.Core.Path.{◌≡◌, sym, ap, ◌∙◌}
use mathlib.Core.List.{List}
use mathlib.Core.Logic.{◌↔◌, ⊎_elim}
use Prim.Native.Nat.{ℕ, zero, suc, pred, ◌+◌, ◌≤◌}
use native.Mathlib.Nat.{le_refl}
use native.Mathlib.Omega.{arith}
use lib.ListN.{length}
use Rattle.script.specs.Syntax.{Signature, Interface, lists, extends, Program, an_interface, int_of, declaration_at}
use Rattle.script.specs.Regular.{IsType, IsInterface, Regular}
use Rattle.script.proofs.Lists.{lt_or_le}
use Rattle.script.proofs.Declarations.{interface_of, interface_declared, is_interface, is_class, an_interface_at, a_class_at, int_declared, declared_int}
use Rattle.typing.specs.Published.{WfType, T-WF-CLASS, T-WF-INTERFACE, T-WF-INTERFACE-EXTENDS, T-WF-UNIT, T-WF-INT}

-- The interface declared under t is the interface with that number in the program's list.
pub interface_listed : (p : Program) (t : ℕ) (i : Interface) → declaration_at p t ≡ an_interface i → interface_of p (pred t) ≡ i
interface_listed p t i e = let x = interface_declared p t i e in ap (interface_of p) (omega (arith, x.2)) ∙ sym x.3

-- what ⊢ t is derived of is a type
wf_number : {p : Program} {t : ℕ} → WfType p t → IsType p t
wf_number {p} {t} (T-WF-CLASS e) = omega (arith, (is_class p t _ e).last)
wf_number {p} {t} (T-WF-INTERFACE e) = omega (arith, (is_interface p t _ e).last)
wf_number {p} {t} (T-WF-INTERFACE-EXTENDS e) = omega (arith, (is_interface p t _ e).last)
wf_number T-WF-UNIT = omega arith
wf_number {p} {t} (T-WF-INT e) = omega (arith, declared_int p t e)

declared_wf : (p : Program) (t : ℕ) (i : Interface) → declaration_at p t ≡ an_interface i → WfType p t
declared_wf p t (lists gs) e = T-WF-INTERFACE e
declared_wf p t (extends a b) e = T-WF-INTERFACE-EXTENDS e

-- ⊢ t for an interface.
pub interface_wf : (p : Program) (t : ℕ) → IsInterface p t → WfType p t
interface_wf p t h = let d = an_interface_at p t h in declared_wf p t d.0 d.1

number_wf : (p : Program) (t : ℕ) → IsType p t → WfType p t
number_wf p zero h = T-WF-UNIT
number_wf p (suc i) h =
    ⊎_elim
    (λ l. interface_wf p (suc i) (record { first = omega arith; last = l }))
    (λ l.
    ⊎_elim
    (λ k. T-WF-CLASS (a_class_at p (suc i) (record { past = omega arith; last = k })).1)
    (λ k. let e : suc i ≡ int_of p = omega arith in T-WF-INT (ap (declaration_at p) e ∙ int_declared p))
    (lt_or_le i (length p.interfaces + length p.classes)))
    (lt_or_le i (length p.interfaces))

-- The types are the numbers t of which ⊢ t.
pub type_wf : (p : Program) (t : ℕ) → IsType p t ↔ WfType p t
type_wf p t = (number_wf p t, wf_number)

module _ (p : Program) (ok : Regular p) where
  -- Both parents of a join are interfaces.
  pub parent_types : (t a b : ℕ) → declaration_at p t ≡ an_interface (extends a b) → IsInterface p a × IsInterface p b
  parent_types t a b e =
      let r = ok.interfaces t (extends a b) e in
      let h = is_interface p t (extends a b) e in
      (record { first = r.0; last = omega (arith, r.1, h.last) }, record { first = r.2; last = omega (arith, r.3, h.last) })

  -- Parents are earlier: what holds of every list of signatures, and of a join if of both parents, holds of every interface.
  module _ (P : ℕ → Type 0)
      (list : (t : ℕ) (gs : List Signature) → declaration_at p t ≡ an_interface (lists gs) → P t)
      (join : (t a b : ℕ) → declaration_at p t ≡ an_interface (extends a b) → P a → P b → P t) where
    upto : (n t : ℕ) → t ≤ n → IsInterface p t → P t
    upto zero t k h = absurd (omega (arith, h.first))
    upto (suc n) t k h = go (an_interface_at p t h).0 (an_interface_at p t h).1 (λ t'. upto n t')
      where
        go : (i : Interface) → declaration_at p t ≡ an_interface i → ((t' : ℕ) → t' ≤ n → IsInterface p t' → P t') → P t
        go (lists gs) e ih = list t gs e
        go (extends a b) e ih =
            let r = ok.interfaces t (extends a b) e in
            let q = parent_types t a b e in
            join t a b e (ih a (omega (arith, r.1)) q.0) (ih b (omega (arith, r.3)) q.1)

    pub from_parents : (t : ℕ) → IsInterface p t → P t
    from_parents t h = upto t t (le_refl t) h
