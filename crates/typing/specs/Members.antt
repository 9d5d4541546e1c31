-- Subtyping, fields and methods as computed answers over a program.
use Rattle.std.specs.Prelude.{ℕ, zero, suc, ◌-◌, Bool, false, ◌||◌, List, [], ◌∷◌, eqb, get_or}
use Rattle.std.proofs.Math.Option.{Option, none, some, map}
use Rattle.script.specs.Lists.{named}
use Rattle.script.specs.Syntax.{Slot, Signature, Method, Interface, lists, extends, Class, Program, Declaration, a_unit, an_interface, a_class}
use Rattle.script.specs.Syntax.{an_int, no_type, declaration_at}

-- A value for each interface: `own` gives that of a list of signatures, `join` that of a join from those of its parents; both are handed the type.
-- The values of the interfaces n, .., 1 are a table that is built from the front, so each is computed once, however often it is a parent.
module _ {A : Type 0} (own : ℕ → List Signature → A) (join : ℕ → A → A → A) (blank : A) where
  abbrev pub value_of : ℕ → List A → Interface → A
  value_of n r (lists gs) = own (suc n) gs
  value_of n r (extends a b) = join (suc n) (get_or r (n - a) blank) (get_or r (n - b) blank)

  unfoldable pub values_to : List Interface → ℕ → List A
  values_to l zero = []
  values_to l (suc n) = let r = values_to l n in value_of n r (get_or l n (lists [])) ∷ r

  -- The value of the interface with type t.
  unfoldable pub value_at : List Interface → ℕ → A
  value_at l t = get_or (values_to l t) 0 blank

-- "A type is below itself, a class below its interface, a join below both parents, and so on upward along every chain. Unit is below only itself.", "Int
-- is below only itself".
-- Is the interface t below u?
unfoldable pub reach : Program → ℕ → ℕ → Bool
reach p t u = value_at (λ v gs. eqb v u) (λ v a b. eqb v u || (a || b)) false p.interfaces t

abbrev pub reach_from : Program → ℕ → ℕ → Declaration → Bool
reach_from p t u a_unit = false
reach_from p t u (an_interface i) = reach p t u
reach_from p t u (a_class c) = reach p c.implements u
reach_from p t u an_int = false
reach_from p t u no_type = false

unfoldable pub below : Program → ℕ → ℕ → Bool
below p t u = eqb t u || reach_from p t u (declaration_at p t)

-- "A class type's methods are its own. An interface's are those of its list, or of both parents."
abbrev pub or_else : {A : Type 0} → Option A → Option A → Option A
or_else none b = b
or_else (some a) b = some a

-- The first meaning of the method name m in the interface t.
unfoldable pub meaning : Program → ℕ → ℕ → Option Signature
meaning p m t = value_at (λ v gs. named (λ g. g.name) m gs) (λ v a b. or_else a b) none p.interfaces t

unfoldable pub own_method : Class → ℕ → Option Signature
own_method c m = map (λ d. d.signature) (named (λ (d : Method). d.signature.name) m c.methods)

abbrev pub method_from : Program → ℕ → ℕ → Declaration → Option Signature
method_from p t m a_unit = none
method_from p t m (an_interface i) = meaning p m t
method_from p t m (a_class c) = own_method c m
method_from p t m an_int = none
method_from p t m no_type = none

unfoldable pub method_in : Program → ℕ → ℕ → Option Signature
method_in p t m = method_from p t m (declaration_at p t)

-- The type under a name in an environment, which is Γ(x) by `typed_exactly`, or among fields.
unfoldable pub type_in : List Slot → ℕ → Option ℕ
type_in l x = map (λ b. b.type) (named (λ (b : Slot). b.name) x l)

-- "Field targets must have class type."
abbrev pub field_from : ℕ → Declaration → Option ℕ
field_from f a_unit = none
field_from f (an_interface i) = none
field_from f (a_class c) = type_in c.fields f
field_from f an_int = none
field_from f no_type = none

unfoldable pub field_in : Program → ℕ → ℕ → Option ℕ
field_in p t f = field_from f (declaration_at p t)

-- fields(C), appendix A.3: the fields that a class declares.
abbrev pub fields_from : Declaration → List Slot
fields_from a_unit = []
fields_from (an_interface i) = []
fields_from (a_class c) = c.fields
fields_from an_int = []
fields_from no_type = []

abbrev pub fields_of : Program → ℕ → List Slot
fields_of p t = fields_from (declaration_at p t)

-- methods(C)(m), appendix A.3: the method of this name that a class defines.
abbrev pub defined_from : ℕ → Declaration → Option Method
defined_from m a_unit = none
defined_from m (an_interface i) = none
defined_from m (a_class c) = named (λ (d : Method). d.signature.name) m c.methods
defined_from m an_int = none
defined_from m no_type = none

abbrev pub defined_in : Program → ℕ → ℕ → Option Method
defined_in p t m = defined_from m (declaration_at p t)
