-- Fields and methods as they are looked up are the published ones.
use mathlib.Core.Path.{◌≡◌, refl, sym, ap, ◌∙◌}
use mathlib.Core.List.Memᴰ
use mathlib.Core.List.{List, [], ◌∷◌, map}
use mathlib.Core.Logic.{◌↔◌, ◌⊎◌, ⊎_elim, inl, inr}
use mathlib.Core.Option
use mathlib.Core.Option.{Option, none, some}
use Prim.Native.Nat.{ℕ, zero, suc, pred, ◌<◌}
use native.Mathlib.Omega.{arith}
use lib.ListN.{length, get_or}
use Rattle.script.specs.Lists.{◌∈◌, named}
use Rattle.script.specs.Syntax.{Slot, Signature, Method, Interface, lists, extends, Class, Program, Declaration, a_unit, an_interface, a_class, an_int, no_type, declaration_at}
use Rattle.script.specs.Regular.{IsType, IsInterface, Unique, TypedSignature, Regular}
use Rattle.script.proofs.Lists.{named_in, named_none, named_unique}
use Rattle.script.proofs.Declarations.{is_class, is_interface}
use Rattle.typing.specs.Members.{or_else, meaning, own_method, method_in, method_from, type_in, field_in, field_from}
use Rattle.typing.specs.Check.{names_in}
use Rattle.typing.specs.Published.{MsigIn, msigs_list, msigs_left, msigs_right, msigs_class, FieldIn, fields_class, DefIn, MsigsFunction}
use Rattle.typing.proofs.Types.{interface_listed, parent_types, from_parents}
use Rattle.typing.proofs.Values.{value_lists, value_extends}

-- A look-up: what it finds is wanted, and where it finds nothing, nothing is.
pub data Found {A : Type 0} (Wanted : A → Type 0) : Option A → Type 0 where
  found : {a : A} → Wanted a → Found Wanted (some a)
  missing : ((a : A) → Wanted a → ⊥) → Found Wanted none

module _ {A : Type 0} {P : A → Type 0} where
  -- what each answer says
  pub found_some : {o : Option A} (a : A) → Found P o → o ≡ some a → P a
  found_some a (found {a = b} h) e = let q : a ≡ b = cc in rw q h
  found_some a (missing n) e = absurd (let z : ◌≡◌ {A = ℕ} 0 1 = cc in omega arith)

  pub found_none : {o : Option A} → Found P o → o ≡ none → (a : A) → P a → ⊥
  found_none (found h) e a x = let z : ◌≡◌ {A = ℕ} 0 1 = cc in omega arith
  found_none (missing n) e a x = n a x

  -- if one thing at most is wanted, it is the one found
  pub found_only : {o : Option A} (a : A) → Found P o → ((b : A) → P b → b ≡ a) → P a → o ≡ some a
  found_only a (found {a = b} h) one x = ap some (one b h)
  found_only a (missing n) one x = absurd (n a x)

  -- and if nothing is, nothing is found
  pub found_not : {o : Option A} → Found P o → ((a : A) → P a → ⊥) → o ≡ none
  found_not (found {a = a} h) no_one = absurd (no_one a h)
  found_not (missing n) no_one = refl

  -- the same, wanted in other words; what is made of what is found; the first of two look-ups that finds something
  found_as : {Q : A → Type 0} {o : Option A} → ((a : A) → P a → Q a) → ((a : A) → Q a → P a) → Found P o → Found Q o
  found_as to back (found {a = a} h) = found (to a h)
  found_as to back (missing n) = missing (λ a y. n a (back a y))

  found_map : {B : Type 0} {Q : B → Type 0} {o : Option A} (f : A → B) → ((a : A) → P a → Q (f a)) → ((b : B) → Q b → (a : A) × P a) → Found P o → Found Q (Option.map f o)
  found_map f to back (found {a = a} h) = found (to a h)
  found_map f to back (missing n) = missing (λ b y. n (back b y).0 (back b y).1)

  found_or : {Q R : A → Type 0} {o r : Option A} → ((a : A) → P a ⊎ Q a → R a) → ((a : A) → R a → P a ⊎ Q a) → Found P o → Found Q r → Found R (or_else o r)
  found_or to back (found h) y = found (to _ (inl h))
  found_or to back (missing n) (found h) = found (to _ (inr h))
  found_or to back (missing n) (missing m) = missing (λ a x. ⊎_elim (n a) (m a) (back a x))

-- what `named` finds stands in the list and has the name
named_found : {A : Type 0} (name : A → ℕ) (x : ℕ) (l : List A) → Found (λ a. (a ∈ l) × (name a ≡ x)) (named name x l)
named_found {A} name x l = go (named name x l) refl
  where
    go : (o : Option A) → named name x l ≡ o → Found (λ a. (a ∈ l) × (name a ≡ x)) o
    go none e = missing (λ a h. named_none name x l a e h.0 h.1)
    go (some a) e = found (named_in name x l a e)

-- Where names are unique, one element has the name.
pub unique_same : {A : Type 0} (name : A → ℕ) (l : List A) (a b : A) → Unique name l → a ∈ l → b ∈ l → name a ≡ name b → a ≡ b
unique_same name l a b u m n e = let p = named_unique name (name b) l a u m e in let q = named_unique name (name b) l b u n refl in cc

-- The type found under a name is that of a slot with this name.
pub type_found : (l : List Slot) (x : ℕ) → Found (λ t. record { name = x; type = t } ∈ l) (type_in l x)
unfolding type_in
type_found l x =
    found_map
    (λ b. b.type)
    (λ b h. Memᴰ.cast (λ i. record { name = sym h.1 i; type = b.type }) h.0)
    (λ t m. (record { name = x; type = t }, (m, refl)))
    (named_found (λ (b : Slot). b.name) x l)

-- The method found under a name is one that the class defines.
pub own_found : (c : Class) (m : ℕ) → Found (λ g. DefIn g c.methods × (g.name ≡ m)) (own_method c m)
unfolding own_method
own_found c m =
    found_map
    (λ d. d.signature)
    (λ d h. (record { method = d; there = h.0; same = refl }, h.1))
    (λ g h. (h.0.method, (h.0.there, ap (λ s. s.name) h.0.same ∙ h.1)))
    (named_found (λ (d : Method). d.signature.name) m c.methods)

-- what the published look-ups say of a type, by its declaration
abbrev HasField : ℕ → ℕ → Declaration → Type 0
HasField f u a_unit = ⊥
HasField f u (an_interface i) = ⊥
HasField f u (a_class c) = record { name = f; type = u } ∈ c.fields
HasField f u an_int = ⊥
HasField f u no_type = ⊥

field_from_lem : {p : Program} {t f u : ℕ} → FieldIn p t f u → HasField f u (declaration_at p t)
field_from_lem (fields_class e m) = rw e m

abbrev Has : Program → Signature → Declaration → Type 0
Has p g a_unit = ⊥
Has p g (an_interface (lists gs)) = g ∈ gs
Has p g (an_interface (extends a b)) = MsigIn p a g ⊎ MsigIn p b g
Has p g (a_class c) = DefIn g c.methods
Has p g an_int = ⊥
Has p g no_type = ⊥

-- What a type's methods are, by its declaration, and back.
pub msig_from : {p : Program} {t : ℕ} {g : Signature} → MsigIn p t g → Has p g (declaration_at p t)
msig_from (msigs_list e m) = rw e m
msig_from (msigs_left e i) = rw e (inl i)
msig_from (msigs_right e i) = rw e (inr i)
msig_from (msigs_class {m = d} e m) = rw e (record { method = d; there = m; same = refl })

pub msig_by : {p : Program} {t : ℕ} {g : Signature} (d : Declaration) → declaration_at p t ≡ d → Has p g d → MsigIn p t g
msig_by (an_interface (lists gs)) e h = msigs_list e h
msig_by (an_interface (extends a b)) e (inl i) = msigs_left e i
msig_by (an_interface (extends a b)) e (inr i) = msigs_right e i
msig_by (a_class c) e h = rw (← h.same) (msigs_class e h.there)
msig_by {p = p} {t = t} {g = g} a_unit e h = elim h [ ]
msig_by {p = p} {t = t} {g = g} an_int e h = elim h [ ]
msig_by {p = p} {t = t} {g = g} no_type e h = elim h [ ]

-- A method of type t that has the name m.
abbrev pub Meaning : Program → ℕ → ℕ → Signature → Type 0
Meaning p t m g = MsigIn p t g × (g.name ≡ m)

-- the name of a signature that one of these interfaces lists
listed_name : (l : List Interface) (n : ℕ) (gs : List Signature) (g : Signature) → n < length l → get_or l n (lists []) ≡ lists gs → g ∈ gs → g.name ∈ names_in l
unfolding names_in
listed_name [] n gs g h e m = absurd (omega arith)
listed_name (i ∷ l) zero gs g h e m = rw e (Memᴰ.append_left (names_in l) (Memᴰ.map (λ g. g.name) m))
listed_name (lists gs' ∷ l) (suc n) gs g h e m = Memᴰ.append_right (map (λ g. g.name) gs') (listed_name l n gs g (omega arith) e m)
listed_name (extends a b ∷ l) (suc n) gs g h e m = listed_name l n gs g (omega arith) e m

module _ (p : Program) (ok : Regular p) where
  pub field_found : (t f : ℕ) → Found (FieldIn p t f) (field_in p t f)
  unfolding field_in
  field_found t f = go (declaration_at p t) refl
    where
      go : (d : Declaration) → declaration_at p t ≡ d → Found (FieldIn p t f) (field_from f d)
      go a_unit e = missing (λ u h. rw e at (field_from_lem h))
      go (an_interface i) e = missing (λ u h. rw e at (field_from_lem h))
      go (a_class c) e = found_as (λ u m. fields_class e m) (λ u h. rw e at (field_from_lem h)) (type_found c.fields f)
      go an_int e = missing (λ u h. rw e at (field_from_lem h))
      go no_type e = missing (λ u h. rw e at (field_from_lem h))

  field_same : {t f u v : ℕ} → FieldIn p t f u → FieldIn p t f v → v ≡ u
  field_same {t} (fields_class {c = c} e m) k = ap (λ b. b.type) (unique_same (λ b. b.name) c.fields _ _ (ok.classes t c e).field_names (rw e at (field_from_lem k)) m refl)

  -- A field is found where the type has it, with its type, and none is found where it has none.
  pub field_in_lem : (t f u : ℕ) → (field_in p t f ≡ some u) ↔ FieldIn p t f u
  field_in_lem t f u = (found_some u (field_found t f), λ h. found_only u (field_found t f) (λ v k. field_same h k) h)

  pub field_none : (t f : ℕ) → field_in p t f ≡ none → (u : ℕ) → FieldIn p t f u → ⊥
  field_none t f = found_none (field_found t f)

  -- A field's type is a type.
  pub field_type : {t f u : ℕ} → FieldIn p t f u → IsType p u
  field_type {t} (fields_class {c = c} e m) = (ok.classes t c e).field_types _ m

  declared_found : (m t : ℕ) (d : Declaration) (o : Option Signature) → declaration_at p t ≡ d → Found (λ g. Has p g d × (g.name ≡ m)) o → Found (Meaning p t m) o
  declared_found m t d o e = found_as (λ g h. (msig_by d e h.0, h.1)) (λ g h. (rw e at (msig_from h.0), h.1))

  -- The meaning found in an interface is one of its methods with that name, and it has none where none is found.
  pub meaning_found : (m t : ℕ) → IsInterface p t → Found (Meaning p t m) (meaning p m t)
  unfolding meaning
  meaning_found m = from_parents p ok (λ t. Found (Meaning p t m) (meaning p m t)) list join
    where
      list : (t : ℕ) (gs : List Signature) → declaration_at p t ≡ an_interface (lists gs) → Found (Meaning p t m) (meaning p m t)
      list t gs e =
          rw (value_lists (λ v gs. named (λ g. g.name) m gs) (λ v a b. or_else a b) none p t gs e)
          (declared_found m t (an_interface (lists gs)) (named (λ g. g.name) m gs) e (named_found (λ g. g.name) m gs))

      join : (t a b : ℕ) → declaration_at p t ≡ an_interface (extends a b)
          → Found (Meaning p a m) (meaning p m a)
          → Found (Meaning p b m) (meaning p m b)
          → Found (Meaning p t m) (meaning p m t)
      join t a b e x y =
          rw (value_extends (λ v gs. named (λ g. g.name) m gs) (λ v a b. or_else a b) none p ok t a b e)
          (found_or
          (λ g. ⊎_elim (λ h. (msigs_left e h.0, h.1)) (λ h. (msigs_right e h.0, h.1)))
          (λ g h. ⊎_elim (λ i. inl (i, h.1)) (λ i. inr (i, h.1)) (rw e at (msig_from h.0)))
          x y)

  -- The same of the method found in any type.
  pub method_found : (t m : ℕ) → Found (Meaning p t m) (method_in p t m)
  unfolding method_in
  method_found t m = go (declaration_at p t) refl
    where
      go : (d : Declaration) → declaration_at p t ≡ d → Found (Meaning p t m) (method_from p t m d)
      go a_unit e = declared_found m t a_unit none e (missing (λ g x. x.0))
      go (an_interface i) e = meaning_found m t (is_interface p t i e)
      go (a_class c) e = declared_found m t (a_class c) (own_method c m) e (own_found c m)
      go an_int e = declared_found m t an_int none e (missing (λ g x. x.0))
      go no_type e = declared_found m t no_type none e (missing (λ g x. x.0))

  pub method_in_lem : (t m : ℕ) (g : Signature) → method_in p t m ≡ some g → Meaning p t m g
  method_in_lem t m g = found_some g (method_found t m)

  pub method_none : (t m : ℕ) → method_in p t m ≡ none → (g : Signature) → MsigIn p t g → g.name ≡ m → ⊥
  method_none t m e g i n = found_none (method_found t m) e g (i, n)

  -- Where a type has one meaning for a name, it is the one found.
  pub method_only : MsigsFunction p → (t : ℕ) (g : Signature) → MsigIn p t g → method_in p t g.name ≡ some g
  method_only f t g i = found_only g (method_found t g.name) (λ h x. f t h g x.0 i x.1) (i, refl)

  -- The types of a signature are types.
  pub signature_types : {t : ℕ} {g : Signature} → MsigIn p t g → TypedSignature p g
  signature_types {t} {g} (msigs_list {gs = gs} e m) = (ok.interfaces t (lists gs) e).0 g m
  signature_types (msigs_left e i) = signature_types i
  signature_types (msigs_right e i) = signature_types i
  signature_types {t} (msigs_class {c = c} {m = d} e m) = (ok.classes t c e).method_types d m

  -- The name of an interface's signature is one of those that interfaces list.
  pub signature_name : {t : ℕ} {g : Signature} → IsInterface p t → MsigIn p t g → g.name ∈ names_in p.interfaces
  signature_name {t} {g} h (msigs_list {gs = gs} e m) = listed_name p.interfaces (pred t) gs g (omega (arith, h.first, h.last)) (interface_listed p t (lists gs) e) m
  signature_name {t} h (msigs_left e i) = signature_name (parent_types p ok t _ _ e).0 i
  signature_name {t} h (msigs_right e i) = signature_name (parent_types p ok t _ _ e).1 i
  signature_name {t} h (msigs_class {c = c} e m) = absurd (omega (arith, h.last, (is_class p t c e).past))
