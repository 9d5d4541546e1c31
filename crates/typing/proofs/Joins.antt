-- Questions 9 and 10: the computed answers are the plain statements.
use mathlib.Core.Path.{◌≡◌, refl, sym, ap, ◌∙◌}
use mathlib.Core.Logic.{◌⊎◌, inl, inr}
use mathlib.Core.Option.{Option}
use Prim.Native.Nat.{ℕ, ◌<◌}
use Rattle.script.specs.Lists.{◌∈◌}
use Rattle.script.specs.Syntax.{Signature, Interface, lists, extends, Class, Program, Declaration, a_unit, an_interface, a_class, an_int, no_type, declaration_at}
use Rattle.script.specs.Asking.{Decides, holds, fails}
use Rattle.script.specs.Regular.{IsInterface, Regular}
use Rattle.script.proofs.Tests.{decides_as, decides_and, decides_eq, decides_all}
use Rattle.script.proofs.Declarations.{an_interface_at}
use Rattle.typing.specs.Members.{meaning, own_method}
use Rattle.typing.specs.Check.{names_in, same_types, agree_test, join_test, covers_test, class_test}
use Rattle.typing.specs.Published.{MsigIn, msigs_left, msigs_right, DefIn, MsigsFunction}
use Rattle.typing.specs.Refusals.{JoinIs, ClassIs}
use Rattle.typing.proofs.Types.{parent_types}
use Rattle.typing.proofs.Members.{Found, found, missing, Meaning, unique_same, msig_from, msig_by, own_found, meaning_found, signature_name}

-- A type has one meaning for a method name.
abbrev pub OneMeaning : Program → ℕ → Type 0
OneMeaning p t = (g h : Signature) → MsigIn p t g → MsigIn p t h → g.name ≡ h.name → g ≡ h

-- two signatures with one name are the same if their types are
decides_same : (g h : Signature) → g.name ≡ h.name → Decides (g ≡ h) (same_types g h)
decides_same g h n =
    decides_as
    (λ e. λ i. record { name = n i; param = e.0 i; result = e.1 i })
    (λ e. (ap (λ s. s.param) e, ap (λ s. s.result) e))
    (decides_and (decides_eq g.param h.param) (decides_eq g.result h.result))

-- whether what two types mean by a name is the same
decides_agree : {p : Program} {a b x : ℕ} {o r : Option Signature}
    → OneMeaning p a → OneMeaning p b → Found (Meaning p a x) o → Found (Meaning p b x) r
    → Decides ((g h : Signature) → Meaning p a x g → Meaning p b x h → g ≡ h) (agree_test o r)
decides_agree u v (missing n) f = holds (λ g h k l. absurd (n g k))
decides_agree u v (found k) (missing n) = holds (λ g h k' l. absurd (n h l))
decides_agree u v (found {a = g} k) (found {a = h} l) =
    decides_as
    (λ e g' h' k' l'. u g' g k'.0 k.0 (k'.1 ∙ sym k.1) ∙ e ∙ v h h' l.0 l'.0 (l.1 ∙ sym l'.1))
    (λ f. f g h k l)
    (decides_same g h (k.1 ∙ sym l.1))

module _ (p : Program) (ok : Regular p) where
  -- a list of signatures and a class by their unique names, a join by its yes
  interface_one : (t : ℕ) (i : Interface) → declaration_at p t ≡ an_interface i → JoinIs p t i → OneMeaning p t
  interface_one t (lists gs) e j g h x y = unique_same (λ s. s.name) gs g h (ok.interfaces t (lists gs) e).1 (rw e at (msig_from x)) (rw e at (msig_from y))
  interface_one t (extends a b) e j g h x y = j g h x y

  pub class_one : (t : ℕ) (c : Class) → declaration_at p t ≡ a_class c → OneMeaning p t
  class_one t c e g h x y n =
      let d : DefIn g c.methods = rw e at (msig_from x) in
      let f : DefIn h c.methods = rw e at (msig_from y) in
      let q = unique_same (λ m. m.signature.name) c.methods d.method f.method (ok.classes t c e).method_names d.there f.there (rw (d.same, f.same) n) in
      sym d.same ∙ ap (λ m. m.signature) q ∙ f.same

  -- The test of question 9 decides it of an interface if it holds of every interface before.
  pub decides_join :
      (t : ℕ) (i : Interface) → declaration_at p t ≡ an_interface i
      → ((u : ℕ) (j : Interface) → u < t → declaration_at p u ≡ an_interface j → JoinIs p u j)
      → Decides (JoinIs p t i) (join_test p i)
  decides_join t (lists gs) e before = holds tt
  decides_join t (extends a b) e before = decides_as together apart (decides_all _ _ (names_in p.interfaces) (λ x. decides_agree (one a r.1 q.0) (one b r.3 q.1) (meaning_found p ok x a q.0) (meaning_found p ok x b q.1)))
    where
      q : IsInterface p a × IsInterface p b
      q = parent_types p ok t a b e

      r : (0 < a) × (a < t) × (0 < b) × (b < t)
      r = ok.interfaces t (extends a b) e

      one : (u : ℕ) → u < t → IsInterface p u → OneMeaning p u
      one u l h = let d = an_interface_at p u h in interface_one u d.0 d.1 (before u d.0 l d.1)

      together : ((x : ℕ) → x ∈ names_in p.interfaces → (g h : Signature) → Meaning p a x g → Meaning p b x h → g ≡ h) → JoinIs p t (extends a b)
      together all g h y z n = go (rw e at (msig_from y)) (rw e at (msig_from z))
        where
          go : MsigIn p a g ⊎ MsigIn p b g → MsigIn p a h ⊎ MsigIn p b h → g ≡ h
          go (inl i) (inl k) = one a r.1 q.0 g h i k n
          go (inl i) (inr k) = all g.name (signature_name p ok q.0 i) g h (i, refl) (k, sym n)
          go (inr i) (inl k) = sym (all h.name (signature_name p ok q.0 k) h g (k, refl) (i, n))
          go (inr i) (inr k) = one b r.3 q.1 g h i k n

      apart : JoinIs p t (extends a b) → (x : ℕ) → x ∈ names_in p.interfaces → (g h : Signature) → Meaning p a x g → Meaning p b x h → g ≡ h
      apart j x m g h y z = j g h (msigs_left e y.0) (msigs_right e z.0) (y.1 ∙ sym z.1)

  -- If question 9 holds of every interface, every type has one meaning for a method name, and the other way round.
  pub joins_function : ((t : ℕ) (i : Interface) → declaration_at p t ≡ an_interface i → JoinIs p t i) → MsigsFunction p
  joins_function all t = go (declaration_at p t) refl
    where
      go : (d : Declaration) → declaration_at p t ≡ d → OneMeaning p t
      go a_unit e g h x y n = absurd (rw e at (msig_from x))
      go (an_interface i) e g h x y n = interface_one t i e (all t i e) g h x y n
      go (a_class c) e g h x y n = class_one t c e g h x y n
      go an_int e g h x y n = absurd (rw e at (msig_from x))
      go no_type e g h x y n = absurd (rw e at (msig_from x))

  pub function_joins : MsigsFunction p → (t : ℕ) (i : Interface) → JoinIs p t i
  function_joins f t (lists gs) = tt
  function_joins f t (extends a b) = f t

  -- Where a type has one meaning for a method name, the test of question 10 decides it of a class.
  pub decides_class : MsigsFunction p → (t : ℕ) (c : Class) → declaration_at p t ≡ a_class c → Decides (ClassIs p c) (class_test p c)
  decides_class f t c e =
      decides_as
      (λ all g i. all g.name (signature_name p ok h i) g (i, refl))
      (λ is x m g k. is g k.0)
      (decides_all _ _ (names_in p.interfaces) (λ x. covers x (meaning p x c.implements) (own_method c x) (meaning_found p ok x c.implements h) (own_found c x)))
    where
      h : IsInterface p c.implements
      h = (ok.classes t c e).interface

      covers : (x : ℕ) (o r : Option Signature) → Found (Meaning p c.implements x) o → Found (λ g. DefIn g c.methods × (g.name ≡ x)) r
          → Decides ((g : Signature) → Meaning p c.implements x g → DefIn g c.methods) (covers_test o r)
      covers x o r (missing n) d = holds (λ g k. absurd (n g k))
      covers x o r (found {a = g} k) (missing n) = fails (λ all. n g (all g k, k.1))
      covers x o r (found {a = g} k) (found {a = d} l) =
          decides_as
          (λ (q : g ≡ d) g' k'. rw (f c.implements g' g k'.0 k.0 (k'.1 ∙ sym k.1), q) l.0)
          (λ all. f t g d (msig_by (a_class c) e (all g k)) (msig_by (a_class c) e l.0) (k.1 ∙ sym l.1))
          (decides_same g d (k.1 ∙ sym l.1))
