-- What questions 1 to 8 settle of the program that a script is read as. Nothing here is assumed: `proofs/Regular.antt` shows it of every script that gets a yes
-- to them.
use Rattle.std.specs.Prelude.{ℕ, ◌+◌, ◌<◌, ◌≤◌, ◌≡◌, List, [], ◌∷◌, length}
use Rattle.script.specs.Lists.{◌∈◌}
use Rattle.script.specs.Syntax.{Expr, null, var, select, update, call, bind, new, cast, fork, lock, constant, add, Slot, Signature, Method}
use Rattle.script.specs.Syntax.{Interface, lists, extends, Class, Program, int_of, declaration_at, an_interface, a_class}

-- A type number of the program, and one of a class.
abbrev pub IsType : Program → ℕ → Type 0
IsType p t = t ≤ int_of p

pub record IsClass (p : Program) (t : ℕ) : Type 0 where
  pub past : length p.interfaces < t
  pub last : t ≤ length p.interfaces + length p.classes

pub record IsInterface (p : Program) (t : ℕ) : Type 0 where
  pub first : 0 < t
  pub last : t ≤ length p.interfaces

-- The types that an expression names are types, and those of `new` classes.
abbrev pub Formed : Program → Expr → Type 0
Formed p (null n) = Unit {0}
Formed p (var n x) = Unit {0}
Formed p (select n x f) = Unit {0}
Formed p (update n x f e) = Formed p e
Formed p (call n x m e) = Formed p e
Formed p (bind n x e₁ e₂) = Formed p e₁ × Formed p e₂
Formed p (new n c) = IsClass p c
Formed p (cast n t e) = IsType p t × Formed p e
Formed p (fork n e₁ e₂ e₃) = Formed p e₁ × Formed p e₂ × Formed p e₃
Formed p (lock n x e) = Formed p e
Formed p (constant n z) = Unit {0}
Formed p (add n x y) = Unit {0}

-- No two elements of a list have one name.
pub data Unique {A : Type 0} (name : A → ℕ) : List A → Type 0 where
  no_more : Unique name []
  one_more : {a : A} {l : List A} → ((b : A) → b ∈ l → name a ≡ name b → ⊥) → Unique name l → Unique name (a ∷ l)

pub record TypedSignature (p : Program) (g : Signature) : Type 0 where
  pub param : IsType p g.param
  pub result : IsType p g.result

-- An interface of type t.
abbrev pub RegularInterface : Program → ℕ → Interface → Type 0
RegularInterface p t (lists gs) = ((g : Signature) → g ∈ gs → TypedSignature p g) × Unique (λ g. g.name) gs
RegularInterface p t (extends a b) = (0 < a) × (a < t) × (0 < b) × (b < t)

pub record RegularClass (p : Program) (c : Class) : Type 0 where
  pub interface : IsInterface p c.implements
  pub field_types : (f : Slot) → f ∈ c.fields → IsType p f.type
  pub field_names : Unique (λ f. f.name) c.fields
  pub method_types : (m : Method) → m ∈ c.methods → TypedSignature p m.signature
  pub method_names : Unique (λ m. m.signature.name) c.methods
  pub bodies : (m : Method) → m ∈ c.methods → Formed p m.body

pub record Regular (p : Program) : Type 0 where
  pub interfaces : (t : ℕ) (i : Interface) → declaration_at p t ≡ an_interface i → RegularInterface p t i
  pub classes : (t : ℕ) (c : Class) → declaration_at p t ≡ a_class c → RegularClass p c
  pub start : Formed p p.start
