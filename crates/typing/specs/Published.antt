-- The published typing rules: Figures 3 and 4, Figure 11 (which takes the place of Figure 5 in a checker) and appendix A.3. Each rule keeps its name.
-- Types are numbers, so "class C .. ∈ P" and "interface I .. ∈ P" are said by what the program declares under a number: `declaration_at`, of script's Syntax.
-- Nothing here comes from the walk's files (Members, Typing, Check). WF-FRAME of Figure 4 serves WF-FJ of Figure 5 alone, so it is not here.
use Rattle.std.specs.Prelude.{ℕ, ℤ, ◌≡◌, false, List, [], ◌∷◌}
use Rattle.script.specs.Lists.{◌∈◌}
use Rattle.script.specs.Syntax.{Point, Expr, null, var, select, update, call, bind, new, cast, fork, lock, constant, add, is_null, Slot, Signature, Method}
use Rattle.script.specs.Syntax.{Interface, lists, extends, Class, Program, an_interface, a_class, an_int, declaration_at}
use Rattle.typing.specs.Environments.{TypeOf, Use, of_field, of_method, of_lock, body_env}

-- ⊢ t, Figure 4
pub data WfType (p : Program) : ℕ → Type 0 where
  T-WF-CLASS : {t : ℕ} {c : Class} → declaration_at p t ≡ a_class c → WfType p t
  T-WF-INTERFACE : {t : ℕ} {gs : List Signature} → declaration_at p t ≡ an_interface (lists gs) → WfType p t
  T-WF-INTERFACE-EXTENDS : {t i₁ i₂ : ℕ} → declaration_at p t ≡ an_interface (extends i₁ i₂) → WfType p t
  T-WF-UNIT : WfType p 0
  -- not in the figure: "Type I+C+1 is Int"
  T-WF-INT : {t : ℕ} → declaration_at p t ≡ an_int → WfType p t

-- t₁ <: t₂, Figure 4
pub data Sub (p : Program) : ℕ → ℕ → Type 0 where
  T-SUB-CLASS : {t : ℕ} {c : Class} → declaration_at p t ≡ a_class c → Sub p t c.implements
  T-SUB-INTERFACE-LEFT : {t i₁ i₂ : ℕ} → declaration_at p t ≡ an_interface (extends i₁ i₂) → Sub p t i₁
  T-SUB-INTERFACE-RIGHT : {t i₁ i₂ : ℕ} → declaration_at p t ≡ an_interface (extends i₁ i₂) → Sub p t i₂
  T-SUB-TRANS : {t₁ t₂ t₃ : ℕ} → Sub p t₁ t₂ → Sub p t₂ t₃ → Sub p t₁ t₃
  T-SUB-EQ : {t : ℕ} → WfType p t → Sub p t t

-- ⊢ Γ, Figure 4, without its premise about locations: a program that does not run has none.
pub data WfEnv (p : Program) (Γ : List Slot) : Type 0 where
  WF-ENV : ((b : Slot) → b ∈ Γ → WfType p b.type) → WfEnv p Γ

-- m(x : t₁) : t₂ ∈ msigs(t), appendix A.3
pub data MsigIn (p : Program) : ℕ → Signature → Type 0 where
  msigs_list : {t : ℕ} {gs : List Signature} {g : Signature} → declaration_at p t ≡ an_interface (lists gs) → g ∈ gs → MsigIn p t g
  msigs_left : {t i₁ i₂ : ℕ} {g : Signature} → declaration_at p t ≡ an_interface (extends i₁ i₂) → MsigIn p i₁ g → MsigIn p t g
  msigs_right : {t i₁ i₂ : ℕ} {g : Signature} → declaration_at p t ≡ an_interface (extends i₁ i₂) → MsigIn p i₂ g → MsigIn p t g
  msigs_class : {t : ℕ} {c : Class} {m : Method} → declaration_at p t ≡ a_class c → m ∈ c.methods → MsigIn p t m.signature

-- fields(C)(f) = t, "analogous to msigs"
pub data FieldIn (p : Program) : ℕ → ℕ → ℕ → Type 0 where
  fields_class : {t f u : ℕ} {c : Class} → declaration_at p t ≡ a_class c → record { name = f; type = u } ∈ c.fields → FieldIn p t f u

-- x ∈ fv(e): x occurs in e, and no let of e around that place binds it. A let binds its variable in its last part only.
pub data Free (x : ℕ) : Expr → Type 0 where
  free_var : {n : ℕ} → Free x (var n x)
  free_select : {n f : ℕ} → Free x (select n x f)
  free_update_target : {n f : ℕ} {e : Expr} → Free x (update n x f e)
  free_update_part : {n y f : ℕ} {e : Expr} → Free x e → Free x (update n y f e)
  free_call_target : {n m : ℕ} {e : Expr} → Free x (call n x m e)
  free_call_part : {n y m : ℕ} {e : Expr} → Free x e → Free x (call n y m e)
  free_let_first : {n y : ℕ} {e₁ e₂ : Expr} → Free x e₁ → Free x (bind n y e₁ e₂)
  free_let_last : {n y : ℕ} {e₁ e₂ : Expr} → (y ≡ x → ⊥) → Free x e₂ → Free x (bind n y e₁ e₂)
  free_cast : {n t : ℕ} {e : Expr} → Free x e → Free x (cast n t e)
  free_fork_left : {n : ℕ} {e₁ e₂ e : Expr} → Free x e₁ → Free x (fork n e₁ e₂ e)
  free_fork_right : {n : ℕ} {e₁ e₂ e : Expr} → Free x e₂ → Free x (fork n e₁ e₂ e)
  free_fork_last : {n : ℕ} {e₁ e₂ e : Expr} → Free x e → Free x (fork n e₁ e₂ e)
  free_lock_target : {n : ℕ} {e : Expr} → Free x (lock n x e)
  free_lock_part : {n y : ℕ} {e : Expr} → Free x e → Free x (lock n y e)
  free_add_left : {n y : ℕ} → Free x (add n x y)
  free_add_right : {n y : ℕ} → Free x (add n y x)

-- fv(e₁) ∩ fv(e₂) = ∅
abbrev pub Disjoint : Expr → Expr → Type 0
Disjoint e₁ e₂ = (x : ℕ) → Free x e₁ → Free x e₂ → ⊥

-- Null has type t: the premise t ≠ int, with which section 9 updates BD-CHECK-NULL. "Null does not fit Int (14)"
pub data NullFits (p : Program) (t : ℕ) : Type 0 where
  no_int : (declaration_at p t ≡ an_int → ⊥) → NullFits p t

-- No premise of the paper: node n may use its target so. Figure 11 asks only that the target's type has the field or method, which Int has not, and "A lock
-- target may have any type", but "Int is no target of field, call or lock (13)"; a later rule may ask more of a use.
pub data UseOk (p : Program) (n : Point) : Use → Type 0 where
  any_field : {c f : ℕ} → UseOk p n (of_field c f)
  any_method : {t m : ℕ} → UseOk p n (of_method t m)
  lock_no_int : {t : ℕ} → (declaration_at p t ≡ an_int → ⊥) → UseOk p n (of_lock t)

-- Γ ⊢ e ⇒ t and Γ ⊢ e ⇐ t, Figure 11. A target x is a variable, inferred by BD-INFER-VAR; it stands at the node that names it. The premise ⊢ C of BD-INFER-NEW
-- is that of T-WF-CLASS. Not in the figure are BD-CHECK-LET, BD-CHECK-LOCK and BD-CHECK-FJ: "when a let, a lock or a fork is checked against a type, its last
-- part is checked against that same type". Their other premises are those of BD-INFER-LET, BD-INFER-LOCK and BD-INFER-FJ. Nor are BD-INFER-INT and
-- BD-INFER-ADD, of a constant and of a sum, whose two variables are "both of type Int".
mutual
  pub data Infer (p : Program) : List Slot → Expr → ℕ → Type 0 where
    BD-INFER-VAR : {Γ : List Slot} {n x t : ℕ} → WfEnv p Γ → TypeOf Γ x t → Infer p Γ (var n x) t
    BD-INFER-LET : {Γ : List Slot} {n x t₁ t : ℕ} {e₁ e₂ : Expr} → Infer p Γ e₁ t₁ → Infer p (record { name = x; type = t₁ } ∷ Γ) e₂ t
        → Infer p Γ (bind n x e₁ e₂) t
    BD-INFER-CALL : {Γ : List Slot} {n x m t₁ t₂ t : ℕ} {e : Expr} → Infer p Γ (var n x) t₁ → Check p Γ e t₂
        → MsigIn p t₁ (record { name = m; param = t₂; result = t }) → UseOk p n (of_method t₁ m) → Infer p Γ (call n x m e) t
    BD-INFER-CAST : {Γ : List Slot} {n t : ℕ} {e : Expr} → Check p Γ e t → Infer p Γ (cast n t e) t
    BD-INFER-SELECT : {Γ : List Slot} {n x f c t : ℕ} → Infer p Γ (var n x) c → FieldIn p c f t → UseOk p n (of_field c f)
        → Infer p Γ (select n x f) t
    BD-INFER-UPDATE : {Γ : List Slot} {n x f c t : ℕ} {e : Expr} → Infer p Γ (var n x) c → Check p Γ e t → FieldIn p c f t
        → UseOk p n (of_field c f) → Infer p Γ (update n x f e) 0
    BD-INFER-NEW : {Γ : List Slot} {n t : ℕ} {c : Class} → WfEnv p Γ → declaration_at p t ≡ a_class c → Infer p Γ (new n t) t
    BD-INFER-LOCK : {Γ : List Slot} {n x t₂ t : ℕ} {e : Expr} → Infer p Γ (var n x) t₂ → UseOk p n (of_lock t₂) → Infer p Γ e t
        → Infer p Γ (lock n x e) t
    BD-INFER-FJ : {Γ : List Slot} {n t₁ t₂ t : ℕ} {e₁ e₂ e : Expr} → Disjoint e₁ e₂ → Infer p Γ e₁ t₁ → Infer p Γ e₂ t₂ → Infer p Γ e t
        → Infer p Γ (fork n e₁ e₂ e) t
    BD-INFER-INT : {Γ : List Slot} {n t : ℕ} {z : ℤ} → WfEnv p Γ → declaration_at p t ≡ an_int → Infer p Γ (constant n z) t
    BD-INFER-ADD : {Γ : List Slot} {n x y t : ℕ} → Infer p Γ (var n x) t → Infer p Γ (var n y) t → declaration_at p t ≡ an_int → Infer p Γ (add n x y) t

  pub data Check (p : Program) : List Slot → Expr → ℕ → Type 0 where
    BD-CHECK-NULL : {Γ : List Slot} {n t : ℕ} → WfEnv p Γ → WfType p t → NullFits p t → Check p Γ (null n) t
    BD-CHECK-SUB : {Γ : List Slot} {e : Expr} {t' t : ℕ} → Infer p Γ e t' → Sub p t' t → is_null e ≡ false → Check p Γ e t
    BD-CHECK-LET : {Γ : List Slot} {n x t₁ t : ℕ} {e₁ e₂ : Expr} → Infer p Γ e₁ t₁ → Check p (record { name = x; type = t₁ } ∷ Γ) e₂ t
        → Check p Γ (bind n x e₁ e₂) t
    BD-CHECK-LOCK : {Γ : List Slot} {n x t₂ t : ℕ} {e : Expr} → Infer p Γ (var n x) t₂ → UseOk p n (of_lock t₂) → Check p Γ e t
        → Check p Γ (lock n x e) t
    BD-CHECK-FJ : {Γ : List Slot} {n t₁ t₂ t : ℕ} {e₁ e₂ e : Expr} → Disjoint e₁ e₂ → Infer p Γ e₁ t₁ → Infer p Γ e₂ t₂ → Check p Γ e t
        → Check p Γ (fork n e₁ e₂ e) t

-- ⊢ Id, Figure 3. That the parents of a join are interfaces is question 4.
pub data WfInterface (p : Program) : Interface → Type 0 where
  WF-INTERFACE : {gs : List Signature} → ((g : Signature) → g ∈ gs → WfType p g.param × WfType p g.result) → WfInterface p (lists gs)
  WF-INTERFACE-EXTENDS : {i₁ i₂ : ℕ} → WfType p i₁ → WfType p i₂ → WfInterface p (extends i₁ i₂)

-- ⊢ Fd, Figure 3
pub data WfField (p : Program) : Slot → Type 0 where
  WF-FIELD : {f : Slot} → WfType p f.type → WfField p f

-- this : C ⊢ Md, Figure 3, with "Bodies are checked against the result type"
pub data WfMethod (p : Program) (c : ℕ) : Method → Type 0 where
  WF-METHOD : {m : Method} → Check p (body_env c m.signature) m.body m.signature.result → WfMethod p c m

-- def m(x : t) : t' {e} ∈ Mds
pub record DefIn (g : Signature) (ms : List Method) : Type 0 where
  pub method : Method
  pub there : method ∈ ms
  pub same : method.signature ≡ g

-- ⊢ Cd, Figure 3, for a class of type t
pub data WfClass (p : Program) (t : ℕ) : Class → Type 0 where
  WF-CLASS :
      {c : Class}
      → ((g : Signature) → MsigIn p c.implements g → DefIn g c.methods)
      → ((f : Slot) → f ∈ c.fields → WfField p f)
      → ((m : Method) → m ∈ c.methods → WfMethod p t m)
      → WfClass p t c

-- No rule of Figure 3, but appendix A.3's way of writing: msigs(t)(m) = x : t₁ → t₂ is read as a function, so a type has one meaning for a method name.
-- Question 9 asks this of joins; without it a call on a join could have two types.
abbrev pub MsigsFunction : Program → Type 0
MsigsFunction p = (t : ℕ) (g h : Signature) → MsigIn p t g → MsigIn p t h → g.name ≡ h.name → g ≡ h

-- ⊢ P : t, Figure 3, with "the start is inferred with no variable"
pub data WfProgram (p : Program) : ℕ → Type 0 where
  WF-PROGRAM :
      {t : ℕ}
      → MsigsFunction p
      → ((u : ℕ) (i : Interface) → declaration_at p u ≡ an_interface i → WfInterface p i)
      → ((u : ℕ) (c : Class) → declaration_at p u ≡ a_class c → WfClass p u c)
      → Infer p [] p.start t
      → WfProgram p t
