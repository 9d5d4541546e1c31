-- Facts of typing that the machine uses: nothing but itself is below a class, methods are handed down, and what is inferred is what the walk computes.
use Prim.Native.Nat.{ℕ, ◌<◌}
use mathlib.Core.Path.{◌≡◌, refl, sym, ◌∙◌, ap, subst}
use mathlib.Core.List.{List, [], ◌∷◌}
use mathlib.Core.Logic.{◌↔◌}
use mathlib.Core.Option.{some}
use native.Mathlib.Omega.{arith}
use Rattle.script.specs.Lists.{◌∈◌}
use Rattle.script.specs.Syntax.{Point, Expr, null, bind, fork, lock, point_of, Slot, Signature, Method, Class, Program, declaration_at, a_class, an_int}
use Rattle.script.specs.Regular.{IsType, IsClass}
use Rattle.script.proofs.Lists.{named_unique}
use Rattle.script.proofs.Reading.{build_point}
use Rattle.script.proofs.Declarations.{is_class, a_class_at}
use Rattle.std.specs.declared.result.Result.TheVariants.{Ok}
use Rattle.typing.specs.Members.{type_in, field_in, fields_of, defined_in}
use Rattle.typing.specs.Environments.{TypeOf, body_env}
use Rattle.typing.specs.Typing.{inferred, checked}
use Rattle.typing.specs.Published.{WfType, T-WF-UNIT, Sub, T-SUB-CLASS, T-SUB-INTERFACE-LEFT, T-SUB-INTERFACE-RIGHT, T-SUB-TRANS, T-SUB-EQ, WfEnv, MsigIn, msigs_left, msigs_right, msigs_class, FieldIn, fields_class, NullFits, no_int, lock_no_int, Infer, BD-INFER-VAR, BD-INFER-LET, BD-INFER-LOCK, BD-INFER-FJ, Check, BD-CHECK-NULL, BD-CHECK-SUB, BD-CHECK-LET, BD-CHECK-LOCK, BD-CHECK-FJ, WfMethod, WF-METHOD, DefIn, WfClass, WF-CLASS, MsigsFunction, WfProgram, WF-PROGRAM}
use Rattle.typing.proofs.Types.{type_wf, parent_types}
use Rattle.typing.proofs.Int.{nullable_up}
use Rattle.typing.proofs.Members.{field_in_lem, msig_from}
use Rattle.typing.proofs.Rules.{env_more, infer_null, infer_type, infer_complete, check_complete}
use Rattle.machine.specs.Config.{Code}
use Rattle.machine.specs.declared.Want.{Want}
use Rattle.machine.specs.declared.Want.TheVariants.{Any as any, Upto as upto}
use Rattle.machine.specs.WellFormed.{Meets, meets_any, meets_type, NullMeets, null_any, null_type, Gives, gives_null, gives_type, gives_let, gives_lock, gives_fork}
use Rattle.machine.specs.Accepted.{AcceptedCode}

pub meets_below : {s : Code} {t u : ℕ} {w : Want} → Sub s.program t u → Meets s u w → Meets s t w
meets_below b meets_any = meets_any
meets_below b (meets_type c) = meets_type (T-SUB-TRANS b c)

-- Null fits Unit.
pub null_unit : (p : Program) → NullFits p 0
unfolding declaration_at
null_unit p = no_int (λ e. let z : ◌≡◌ {A = ℕ} 0 1 = cc in omega arith)

pub check_gives : {s : Code} {Γ : List Slot} {a : Expr} {t : ℕ} → Check s.program Γ a t → Gives s Γ a (upto t)
check_gives (BD-CHECK-NULL w i o) = gives_null (null_type o)
check_gives (BD-CHECK-SUB h b n) = gives_type h (meets_type b)
check_gives (BD-CHECK-LET h c) = gives_let h (check_gives c)
check_gives (BD-CHECK-LOCK h o c) = gives_lock h o (check_gives c)
check_gives (BD-CHECK-FJ d h k c) = gives_fork d h k (check_gives c)

-- What has a field or a method is not Int.
pub field_no_int : {p : Program} {c f u : ℕ} → FieldIn p c f u → declaration_at p c ≡ an_int → ⊥
field_no_int (fields_class d m) e = let z : ◌≡◌ {A = ℕ} 0 1 = cc in omega arith

pub method_no_int : {p : Program} {c : ℕ} {g : Signature} → MsigIn p c g → declaration_at p c ≡ an_int → ⊥
method_no_int i e = rw e at (msig_from i)

-- Null gives what is wanted only if it meets that.
pub null_given : {s : Code} {Γ : List Slot} {n : Point} {w : Want} → Gives s Γ (null n) w → NullMeets s w
null_given (gives_null m) = m
null_given (gives_type h m) = absurd (let e = infer_null h in let z : ◌≡◌ {A = ℕ} 0 1 = cc in omega arith)

-- What a let, a lock and a fork that give what is wanted are put together of.
pub let_parts : {s : Code} {Γ : List Slot} {n x : ℕ} {a b : Expr} {w : Want} → Gives s Γ (bind n x a b) w
    → (t : ℕ) × Infer s.program Γ a t × Gives s (record { name = x; type = t } ∷ Γ) b w
let_parts (gives_type (BD-INFER-LET {t₁ = t} h k) m) = (t, h, gives_type k m)
let_parts (gives_let {t = t} h g) = (t, h, g)

pub lock_parts : {s : Code} {Γ : List Slot} {n x : ℕ} {a : Expr} {w : Want} → Gives s Γ (lock n x a) w
    → (t : ℕ) × TypeOf Γ x t × Gives s Γ a w × (declaration_at s.program t ≡ an_int → ⊥)
lock_parts (gives_type (BD-INFER-LOCK {t₂ = t} (BD-INFER-VAR z h) (lock_no_int o) k) m) = (t, h, gives_type k m, o)
lock_parts (gives_lock {t = t} (BD-INFER-VAR z h) (lock_no_int o) g) = (t, h, g, o)

pub fork_parts : {s : Code} {Γ : List Slot} {n : ℕ} {a b c : Expr} {w : Want} → Gives s Γ (fork n a b c) w → Gives s Γ a any × Gives s Γ b any × Gives s Γ c w
fork_parts (gives_type (BD-INFER-FJ d h k l) m) = (gives_type h meets_any, gives_type k meets_any, gives_type l m)
fork_parts (gives_fork d h k g) = (gives_type h meets_any, gives_type k meets_any, g)

-- What the program's rule says.
pub rules_function : {p : Program} {t : ℕ} → WfProgram p t → MsigsFunction p
rules_function (WF-PROGRAM one i c h) = one

rules_class : {p : Program} {t : ℕ} → WfProgram p t → (u : ℕ) (c : Class) → declaration_at p u ≡ a_class c → WfClass p u c
rules_class (WF-PROGRAM one i c h) = c

rules_start : {p : Program} {t : ℕ} → WfProgram p t → Infer p [] p.start t
rules_start (WF-PROGRAM one i c h) = h

class_covers : {p : Program} {t : ℕ} {c : Class} {g : Signature} → WfClass p t c → MsigIn p c.implements g → DefIn g c.methods
class_covers (WF-CLASS f g m) i = f _ i

class_method : {p : Program} {t : ℕ} {c : Class} {m : Method} → WfClass p t c → m ∈ c.methods → WfMethod p t m
class_method (WF-CLASS f g h) i = h _ i

method_checks : {p : Program} {t : ℕ} {m : Method} → WfMethod p t m → Check p (body_env t m.signature) m.body m.signature.result
method_checks (WF-METHOD c) = c

-- The method that a class defines for a signature, with its body at a node.
pub record Defined (s : Code) (c : ℕ) (g : Signature) : Type 0 where
  pub method : Method
  pub there : defined_in s.program c g.name ≡ some method
  pub same : method.signature ≡ g
  pub node : point_of method.body < s.size
  pub body : s.expr (point_of method.body) ≡ method.body
  pub param : IsType s.program method.signature.param
  pub checked : Check s.program (body_env c method.signature) method.body method.signature.result

module _ {s : Code} {start : ℕ} (acc : AcceptedCode s start) where
  -- Nothing but itself is below a class.
  pub below_class : {t u : ℕ} → IsClass s.program u → Sub s.program t u → t ≡ u
  below_class i (T-SUB-CLASS {t = t} {c = c} d) = absurd (omega (arith, i.past, (acc.regular.classes t c d).interface.last))
  below_class i (T-SUB-INTERFACE-LEFT {t = t} d) = absurd (omega (arith, i.past, (parent_types s.program acc.regular t _ _ d).0.last))
  below_class i (T-SUB-INTERFACE-RIGHT {t = t} d) = absurd (omega (arith, i.past, (parent_types s.program acc.regular t _ _ d).1.last))
  below_class i (T-SUB-TRANS b c) = let e = below_class i c in below_class (rw e i) b ∙ e
  below_class i (T-SUB-EQ w) = refl

  -- Methods are handed down.
  pub below_method : {t u : ℕ} {g : Signature} → Sub s.program t u → MsigIn s.program u g → MsigIn s.program t g
  below_method (T-SUB-CLASS {t = t} {c = c} d) i =
      let m = class_covers (rules_class acc.typed t c d) i in
      rw (← m.same) (msigs_class d m.there)
  below_method (T-SUB-INTERFACE-LEFT d) i = msigs_left d i
  below_method (T-SUB-INTERFACE-RIGHT d) i = msigs_right d i
  below_method (T-SUB-TRANS b c) i = below_method b (below_method c i)
  below_method (T-SUB-EQ w) i = i

  -- What null meets it meets further up, and so does what is checked.
  pub null_meets : {t : ℕ} {w : Want} → NullFits s.program t → Meets s t w → NullMeets s w
  null_meets o meets_any = null_any
  null_meets o (meets_type b) = null_type (nullable_up s.program acc.regular b o)

  pub gives_meets : {Γ : List Slot} {a : Expr} {t : ℕ} {w : Want} → Gives s Γ a (upto t) → Meets s t w → Gives s Γ a w
  gives_meets (gives_null (null_type o)) m = gives_null (null_meets o m)
  gives_meets (gives_type h (meets_type b)) m = gives_type h (meets_below b m)
  gives_meets (gives_let h g) m = gives_let h (gives_meets g m)
  gives_meets (gives_lock h o g) m = gives_lock h o (gives_meets g m)
  gives_meets (gives_fork d h k g) m = gives_fork d h k (gives_meets g m)

  -- What is inferred is what the walk computes, so it is one type.
  pub infer_computes : {Γ : List Slot} {e : Expr} {t : ℕ} → Infer s.program Γ e t → inferred s.program Γ e ≡ Ok t
  infer_computes = infer_complete s.program acc.regular (rules_function acc.typed)

  pub check_computes : {Γ : List Slot} {e : Expr} {t : ℕ} → Check s.program Γ e t → checked s.program Γ e t ≡ Ok t
  check_computes = check_complete s.program acc.regular (rules_function acc.typed)

  -- It is a type.
  pub infer_wf : {Γ : List Slot} {e : Expr} {t : ℕ} → Infer s.program Γ e t → WfType s.program t
  infer_wf {t = t} h = (type_wf s.program t).0 (infer_type s.program acc.regular h)

  pub infer_gives : {Γ : List Slot} {e : Expr} {t : ℕ} → Infer s.program Γ e t → Gives s Γ e (upto t)
  infer_gives h = gives_type h (meets_type (T-SUB-EQ (infer_wf h)))

  pub env_next : {Γ : List Slot} {e : Expr} {t : ℕ} (x : ℕ) → WfEnv s.program Γ → Infer s.program Γ e t → WfEnv s.program (record { name = x; type = t } ∷ Γ)
  env_next {Γ} {t = t} x w h = env_more s.program Γ x t w (infer_type s.program acc.regular h)

  -- An expression gives what is wanted exactly if Figure 11 checks it against that type, or where any type will do against some type.
  pub gives_checks : {Γ : List Slot} {e : Expr} {t : ℕ} → WfEnv s.program Γ → WfType s.program t → Gives s Γ e (upto t) ↔ Check s.program Γ e t
  gives_checks {t = t} w i = (to w, check_gives)
    where
      to : {Γ : List Slot} {e : Expr} → WfEnv s.program Γ → Gives s Γ e (upto t) → Check s.program Γ e t
      to w (gives_null (null_type o)) = BD-CHECK-NULL w i o
      to w (gives_type h (meets_type b)) = BD-CHECK-SUB h b (infer_null h)
      to w (gives_let {x = x} h g) = BD-CHECK-LET h (to (env_next x w h) g)
      to w (gives_lock h o g) = BD-CHECK-LOCK h o (to w g)
      to w (gives_fork d h k g) = BD-CHECK-FJ d h k (to w g)

  pub gives_some : {Γ : List Slot} {e : Expr} → WfEnv s.program Γ → Gives s Γ e any ↔ ((t : ℕ) × Check s.program Γ e t)
  gives_some w = (to w, λ c. gives_meets (check_gives c.1) meets_any)
    where
      to : {Γ : List Slot} {e : Expr} → WfEnv s.program Γ → Gives s Γ e any → (t : ℕ) × Check s.program Γ e t
      to w (gives_null m) = (0, BD-CHECK-NULL w T-WF-UNIT (null_unit s.program))
      to w (gives_type {t = t} h m) = (t, BD-CHECK-SUB h (T-SUB-EQ (infer_wf h)) (infer_null h))
      to w (gives_let {x = x} h g) = let r = to (env_next x w h) g in (r.0, BD-CHECK-LET h r.1)
      to w (gives_lock h o g) = let r = to w g in (r.0, BD-CHECK-LOCK h o r.1)
      to w (gives_fork d h k g) = let r = to w g in (r.0, BD-CHECK-FJ d h k r.1)

  -- The start is typed, and its type is a type.
  pub start_typed : Infer s.program [] (s.expr 0) start
  start_typed = subst (λ (e : Expr). Infer s.program [] e start) acc.start (rules_start acc.typed)

  pub start_type : WfType s.program start
  start_type = infer_wf (rules_start acc.typed)

  -- A field that the rules give is found among those of the class.
  pub field_declared : {c f u : ℕ} → FieldIn s.program c f u → IsClass s.program c × (type_in (fields_of s.program c) f ≡ some u)
  unfolding field_in
  field_declared {c} {f} {u} (fields_class {c = k} d m) =
      (is_class s.program c k d, rw d (rw d at ((field_in_lem s.program acc.regular c f u).1 (fields_class d m))))

  class_wf : {c : ℕ} → IsClass s.program c → WfType s.program c
  class_wf {c} i = (type_wf s.program c).0 (omega (arith, i.last))

  pub class_below : {c : ℕ} → IsClass s.program c → Sub s.program c c
  class_below i = T-SUB-EQ (class_wf i)

  -- A class's method has a body at a node, checked as WF-METHOD says.
  pub defined : {c : ℕ} {g : Signature} → IsClass s.program c → MsigIn s.program c g → Defined s c g
  defined {c} {g} i k =
      let x = a_class_at s.program c i in
      let d : DefIn g x.0.methods = rw x.1 at (msig_from k) in
      let b = acc.bodies c x.0 d.method x.1 d.there in
      let p : point_of d.method.body ≡ b.point = ap point_of (b.is ∙ acc.built b.point b.there) ∙ build_point b.point s.expr (s.view b.point) in
      record {
        method = d.method;
        there = rw x.1 (named_unique (λ (m : Method). m.signature.name) g.name x.0.methods d.method (acc.regular.classes c x.0 x.1).method_names d.there (ap (λ (h : Signature). h.name) d.same));
        same = d.same;
        node = rw p b.there;
        body = ap s.expr p ∙ sym b.is;
        param = ((acc.regular.classes c x.0 x.1).method_types d.method d.there).param;
        checked = method_checks (class_method (rules_class acc.typed c x.0 x.1) d.there);
      }
