-- The table of the interfaces' values: each interface has the value that its declaration gives it.
use mathlib.Core.Path.{◌≡◌, refl, ap, ◌∙◌}
use mathlib.Core.Bool.{Bool, true, false}
use mathlib.Core.List.{List}
use Prim.Native.Nat.{ℕ, zero, suc, ◌-◌, ◌<◌, ◌≤◌}
use native.Mathlib.Omega.{arith}
use lib.Dec.{eqb}
use lib.ListN.{get_or}
use borrow.Author.Tests.{eqb-true, eqb-false}
use Rattle.script.specs.Syntax.{Signature, Interface, lists, extends, Program, an_interface, declaration_at}
use Rattle.script.specs.Regular.{Regular}
use Rattle.script.proofs.Declarations.{is_interface}
use Rattle.typing.specs.Members.{value_of, values_to, value_at}
use Rattle.typing.proofs.Types.{interface_listed}

module _ {A : Type 0} (own : ℕ → List Signature → A) (join : ℕ → A → A → A) (blank : A) where
  -- every table that goes far enough holds the value of t
  more_values : (l : List Interface) (n t : ℕ) → t ≤ suc n
      → (t ≤ n → get_or (values_to own join blank l n) (n - t) blank ≡ value_at own join blank l t)
      → get_or (values_to own join blank l (suc n)) (suc n - t) blank ≡ value_at own join blank l t
  unfolding values_to value_at
  more_values l n t k rest = go (eqb t (suc n)) refl
    where
      go : (b : Bool) → eqb t (suc n) ≡ b → get_or (values_to own join blank l (suc n)) (suc n - t) blank ≡ value_at own join blank l t
      go true e = let q : t ≡ suc n = eqb-true t (suc n) e in let z : suc n - suc n ≡ 0 = omega arith in rw (q, z)
      go false e = let d = eqb-false t (suc n) e in let z : suc n - t ≡ suc (n - t) = omega arith in rw z (rest (omega arith))

  values_at : (l : List Interface) (n t : ℕ) → 0 < t → t ≤ n → get_or (values_to own join blank l n) (n - t) blank ≡ value_at own join blank l t
  values_at l zero t h k = absurd (omega arith)
  values_at l (suc n) t h k = more_values l n t k (λ k'. values_at l n t h k')

  declared_value : (p : Program) (n : ℕ) (i : Interface) → declaration_at p (suc n) ≡ an_interface i
      → value_at own join blank p.interfaces (suc n) ≡ value_of own join blank n (values_to own join blank p.interfaces n) i
  unfolding values_to value_at
  declared_value p n i e = ap (value_of own join blank n (values_to own join blank p.interfaces n)) (interface_listed p (suc n) i e)

  -- The value of a list of signatures.
  pub value_lists : (p : Program) (t : ℕ) (gs : List Signature) → declaration_at p t ≡ an_interface (lists gs) → value_at own join blank p.interfaces t ≡ own t gs
  value_lists p zero gs e = absurd (omega (arith, (is_interface p 0 (lists gs) e).first))
  value_lists p (suc n) gs e = declared_value p n (lists gs) e

  -- The value of a join, from those of its parents.
  pub value_extends :
      (p : Program) → Regular p → (t a b : ℕ) → declaration_at p t ≡ an_interface (extends a b)
      → value_at own join blank p.interfaces t ≡ join t (value_at own join blank p.interfaces a) (value_at own join blank p.interfaces b)
  value_extends p ok zero a b e = absurd (omega (arith, (is_interface p 0 (extends a b) e).first))
  value_extends p ok (suc n) a b e =
      let r = ok.interfaces (suc n) (extends a b) e in
      declared_value p n (extends a b) e ∙ rw (values_at p.interfaces n a r.0 (omega (arith, r.1)), values_at p.interfaces n b r.2 (omega (arith, r.3)))
