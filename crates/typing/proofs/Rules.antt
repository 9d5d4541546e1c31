-- The walk over an expression and the published rules: what the walk answers is what the rules give, and the other way round.
use mathlib.Core.Path.{◌≡◌, refl}
use mathlib.Core.Bool.{Bool, true, false, not, ◌&&◌}
use mathlib.Core.List.Memᴰ
use mathlib.Core.List.{List, ◌∷◌}
use mathlib.Core.Logic.{⊎_elim}
use mathlib.Core.Option.{Option, none, some}
use Prim.Native.Nat.{ℕ}
use native.Mathlib.Omega.{arith}
use Rattle.script.specs.declared.Question.{Question}
use Rattle.script.specs.declared.Question.TheVariants.{Variables, Members, Sharing}
use Rattle.script.specs.Syntax.{Point, Expr, null, var, select, update, call, bind, new, cast, fork, lock, constant, add, point_of, is_null, Slot, Program, an_int, int_of, declaration_at}
use Rattle.script.specs.Asking.{Decides, holds, fails}
use Rattle.script.specs.Regular.{IsType, Formed, Regular}
use Rattle.script.proofs.Declarations.{a_class_at, int_declared, declared_int}
use Rattle.script.proofs.Tests.{no_said, yes_said, decides_and}
use Rattle.typing.specs.declared.Aim.{Aim}
use Rattle.typing.specs.declared.Aim.TheVariants.{Infers as infers, Checks as checks}
use Rattle.std.specs.declared.result.Result.TheVariants.{Ok, Err}
use Rattle.typing.specs.Answers.{Answer, faulty}
use Rattle.typing.specs.Environments.{TypeOf, of_lock}
use Rattle.typing.specs.Members.{below, type_in, field_in, method_in}
use Rattle.typing.specs.Typing.{fv, shares, and_then, or_faulty, unless_shared, fits, lock_no, use_no, unless_no, aimed, answer, inferred, checked}
use Rattle.typing.specs.Published.{T-WF-CLASS, T-WF-INT, WfType, Sub, WfEnv, WF-ENV, MsigsFunction, Disjoint, no_int, any_field, any_method, lock_no_int, Infer, BD-INFER-VAR, BD-INFER-LET, BD-INFER-CALL, BD-INFER-CAST, BD-INFER-SELECT, BD-INFER-UPDATE, BD-INFER-NEW, BD-INFER-LOCK, BD-INFER-FJ, BD-INFER-INT, BD-INFER-ADD, Check, BD-CHECK-NULL, BD-CHECK-SUB, BD-CHECK-LET, BD-CHECK-LOCK, BD-CHECK-FJ}
use Rattle.typing.specs.Refusals.{last_of, ExprNo, null_inferred, var_unbound, select_unbound, update_unbound, call_unbound, lock_unbound, left_unbound, right_unbound, select_missing, update_missing, call_missing, lock_int, fork_shares, update_part, call_part, cast_part, lock_part, let_first, let_last, fork_left, fork_right, fork_last, left_unfit, right_unfit, null_unfit, not_below}
use Rattle.typing.proofs.Environments.{type_in_lem, typed_exactly, untyped_exactly}
use Rattle.typing.proofs.Sharing.{SharedVariable, decides_sharing}
use Rattle.typing.proofs.Types.{type_wf}
use Rattle.typing.proofs.Subtype.{sub_types, decides_below, below_sub}
use Rattle.typing.proofs.Int.{decides_int, null_fits_exactly, use_exactly}
use Rattle.typing.proofs.Members.{found_some, found_not, type_found, field_found, field_in_lem, field_none, field_type, method_found, method_in_lem, method_none, method_only, signature_types}

-- What an answer says of an expression: its type by the rules, or the first no.
pub data Judged (p : Program) (Γ : List Slot) (e : Expr) : Aim → Answer → Type 0 where
  types : {t : ℕ} → Infer p Γ e t → Judged p Γ e infers (Ok t)
  passes : {t : ℕ} → Check p Γ e t → Judged p Γ e (checks t) (Ok t)
  refuses : {a : Aim} {q : Question} {k : Point} → ExprNo p Γ e a q k → Judged p Γ e a (faulty q k)

-- The wanted type is a type.
abbrev pub AimType : Program → Aim → Type 0
AimType p infers = Unit {0}
AimType p (checks t) = IsType p t

-- how a property of an answer follows from what it is put together of
by_found :
    {A : Type 0} (P : Answer → Type 0) (q : Question) (n : Point) (o : Option A) (k : A → Answer)
    → (o ≡ none → P (faulty q n))
    → ((a : A) → o ≡ some a → P (k a))
    → P (or_faulty q n o k)
by_found P q n none k f g = f refl
by_found P q n (some a) k f g = g a refl

by_variable :
    (P : Answer → Type 0) (n : Point) (Γ : List Slot) (x : ℕ) (k : ℕ → Answer)
    → (((t : ℕ) → TypeOf Γ x t → ⊥) → P (faulty Variables n))
    → ((t : ℕ) → TypeOf Γ x t → P (k t))
    → P (or_faulty Variables n (type_in Γ x) k)
by_variable P n Γ x k f g = by_found P Variables n (type_in Γ x) k (λ h. f ((untyped_exactly Γ x).0 h)) (λ t h. g t ((typed_exactly Γ x t).0 h))

by_inferred :
    {p : Program} {Γ : List Slot} {e : Expr} {r : Answer} (P : Answer → Type 0)
    → Judged p Γ e infers r
    → ((q : Question) (n : Point) → ExprNo p Γ e infers q n → P (faulty q n))
    → ((t : ℕ) → Infer p Γ e t → P (Ok t))
    → P r
by_inferred P (types {t} h) f g = g t h
by_inferred P (refuses {q = q} {k = n} h) f g = f q n h

by_checked :
    {p : Program} {Γ : List Slot} {e : Expr} {t : ℕ} {r : Answer} (P : Answer → Type 0)
    → Judged p Γ e (checks t) r
    → ((q : Question) (n : Point) → ExprNo p Γ e (checks t) q n → P (faulty q n))
    → (Check p Γ e t → P (Ok t))
    → P r
by_checked P (passes h) f g = g h
by_checked P (refuses {q = q} {k = n} h) f g = f q n h

by_sharing :
    (P : Answer → Type 0) (n : Point) (r : Answer) (e₁ e₂ : Expr) {b : Bool}
    → Decides (SharedVariable e₁ e₂) b
    → (SharedVariable e₁ e₂ → P (faulty Sharing n))
    → (Disjoint e₁ e₂ → P r)
    → P (unless_shared b n r)
by_sharing P n r e₁ e₂ (holds h) f g = f h
by_sharing P n r e₁ e₂ (fails h) f g = g (λ x l m. absurd (h (record { variable = x; left = l; right = m })))

-- the second of two variables is not bound
either_no : (n : Point) (o : Option ℕ) → or_faulty Variables n o (λ t. faulty Variables n) ≡ faulty Variables n
either_no n none = refl
either_no n (some t) = refl

module _ (p : Program) where
  -- a no, whatever the aim
  still_no : {r : Answer} {k : Point} {q : Question} (n : Point) (a : Aim) → r ≡ faulty q k → aimed p n a r ≡ faulty q k
  still_no n infers e = e
  still_no n (checks t) e = rw e

  -- a variable's type is a type
  variable_type : (Γ : List Slot) (x t : ℕ) → WfEnv p Γ → TypeOf Γ x t → IsType p t
  variable_type Γ x t (WF-ENV w) e = (type_wf p t).1 (w (record { name = x; type = t }) (found_some t (type_found Γ x) (type_in_lem e)))

  -- one more variable
  pub env_more : (Γ : List Slot) (x t : ℕ) → WfEnv p Γ → IsType p t → WfEnv p (record { name = x; type = t } ∷ Γ)
  env_more Γ x t (WF-ENV w) i =
      WF-ENV (λ b m. ⊎_elim (λ (e : b ≡ record { name = x; type = t }). rw e ((type_wf p t).0 i)) (λ k. w b k) (Memᴰ.cases_cons m))

-- What is inferred is no null.
pub infer_null : {p : Program} {Γ : List Slot} {e : Expr} {t : ℕ} → Infer p Γ e t → is_null e ≡ false
infer_null (BD-INFER-VAR w h) = refl
infer_null (BD-INFER-LET h k) = refl
infer_null (BD-INFER-CALL h c m o) = refl
infer_null (BD-INFER-CAST c) = refl
infer_null (BD-INFER-SELECT h g o) = refl
infer_null (BD-INFER-UPDATE h c g o) = refl
infer_null (BD-INFER-NEW w h) = refl
infer_null (BD-INFER-LOCK h o k) = refl
infer_null (BD-INFER-FJ d h k l) = refl
infer_null (BD-INFER-INT w d) = refl
infer_null (BD-INFER-ADD h k d) = refl

module _ (p : Program) (ok : Regular p) where
  -- What the rules check against, and what they give, is a type.
  check_type : {Γ : List Slot} {e : Expr} {t : ℕ} → Check p Γ e t → IsType p t
  check_type {t = t} (BD-CHECK-NULL w i o) = (type_wf p t).1 i
  check_type {t = t} (BD-CHECK-SUB h s n) = (type_wf p t).1 (sub_types p ok s).1
  check_type (BD-CHECK-LET h c) = check_type c
  check_type (BD-CHECK-LOCK h o c) = check_type c
  check_type (BD-CHECK-FJ d h k c) = check_type c

  pub infer_type : {Γ : List Slot} {e : Expr} {t : ℕ} → Infer p Γ e t → IsType p t
  infer_type (BD-INFER-VAR {Γ = Γ} {x = x} {t = t} w h) = variable_type p Γ x t w h
  infer_type (BD-INFER-LET h k) = infer_type k
  infer_type (BD-INFER-CALL h c m o) = (signature_types p ok m).result
  infer_type (BD-INFER-CAST c) = check_type c
  infer_type (BD-INFER-SELECT h g o) = field_type p ok g
  infer_type (BD-INFER-UPDATE h c g o) = omega arith
  infer_type (BD-INFER-NEW {t = t} w h) = (type_wf p t).1 (T-WF-CLASS h)
  infer_type (BD-INFER-LOCK h o k) = infer_type k
  infer_type (BD-INFER-FJ d h k l) = infer_type l
  infer_type (BD-INFER-INT {t = t} w d) = (type_wf p t).1 (T-WF-INT d)
  infer_type (BD-INFER-ADD h k d) = infer_type h

  -- what an answer that is inferred says, with the node's aim
  Aimed : List Slot → Expr → Aim → Answer → Type 0
  Aimed Γ e a r = Judged p Γ e a (aimed p (point_of e) a r)

  aim_no : {Γ : List Slot} {e : Expr} {q : Question} {k : Point} (a : Aim) → ExprNo p Γ e a q k → Aimed Γ e a (faulty q k)
  unfolding Aimed
  aim_no infers h = refuses h
  aim_no (checks t) h = refuses h

  unfit : {Γ : List Slot} {e : Expr} {t t' : ℕ} {b : Bool} → point_of (last_of e) ≡ point_of e → Infer p Γ e t' → Decides (Sub p t' t) b
      → Judged p Γ e (checks t) (fits b (point_of e) t)
  unfit l h (holds s) = passes (BD-CHECK-SUB h s (infer_null h))
  unfit l h (fails s) = refuses (not_below h s l)

  aim_yes : {Γ : List Slot} {e : Expr} {t : ℕ} (a : Aim) → point_of (last_of e) ≡ point_of e → Infer p Γ e t → Aimed Γ e a (Ok t)
  unfolding Aimed
  aim_yes infers l h = types h
  aim_yes {t = t} (checks u) l h = unfit l h (decides_below p ok t u (infer_type h))

  -- a let, a lock and a fork, by their last part
  let_judged : {Γ : List Slot} {n x t : ℕ} {e₁ e₂ : Expr} {a : Aim} {r : Answer} → Infer p Γ e₁ t → Judged p (record { name = x; type = t } ∷ Γ) e₂ a r
      → Judged p Γ (bind n x e₁ e₂) a r
  let_judged h (types k) = types (BD-INFER-LET h k)
  let_judged h (passes c) = passes (BD-CHECK-LET h c)
  let_judged h (refuses l) = refuses (let_last h l)

  fork_judged : {Γ : List Slot} {n t u : ℕ} {e₁ e₂ e : Expr} {a : Aim} {r : Answer} → Disjoint e₁ e₂ → Infer p Γ e₁ t → Infer p Γ e₂ u → Judged p Γ e a r
      → Judged p Γ (fork n e₁ e₂ e) a r
  fork_judged d h k (types l) = types (BD-INFER-FJ d h k l)
  fork_judged d h k (passes c) = passes (BD-CHECK-FJ d h k c)
  fork_judged d h k (refuses l) = refuses (fork_last d h k l)

  lock_judged : {Γ : List Slot} {n x t : ℕ} {e : Expr} {a : Aim} {r : Answer} {b : Bool} → WfEnv p Γ → TypeOf Γ x t → Decides (declaration_at p t ≡ an_int) b
      → Judged p Γ e a r → Judged p Γ (lock n x e) a (unless_no (lock_no b) n r)
  lock_judged w h (holds d) j = refuses (lock_int h d)
  lock_judged w h (fails o) (types k) = types (BD-INFER-LOCK (BD-INFER-VAR w h) (lock_no_int o) k)
  lock_judged w h (fails o) (passes c) = passes (BD-CHECK-LOCK (BD-INFER-VAR w h) (lock_no_int o) c)
  lock_judged w h (fails o) (refuses l) = refuses (lock_part h (lock_no_int o) l)

  -- a null that is checked, and a sum
  null_judged : {Γ : List Slot} {n t : ℕ} {b : Bool} → WfEnv p Γ → WfType p t → Decides (declaration_at p t ≡ an_int) b
      → Judged p Γ (null n) (checks t) (fits (not b) n t)
  null_judged w i (holds d) = refuses (null_unfit d)
  null_judged w i (fails h) = passes (BD-CHECK-NULL w i (no_int h))

  sum_judged : {Γ : List Slot} {x y t u : ℕ} {b c : Bool} (n : Point) (a : Aim) → WfEnv p Γ → TypeOf Γ x t → TypeOf Γ y u
      → Decides (declaration_at p t ≡ an_int) b → Decides (declaration_at p u ≡ an_int) c → Aimed Γ (add n x y) a (fits (b && c) n (int_of p))
  sum_judged {t = t} {u = u} n a w h k (holds d) (holds e) =
      aim_yes a refl
      (BD-INFER-ADD (BD-INFER-VAR w (rw (declared_int p t d) at h)) (BD-INFER-VAR w (rw (declared_int p u e) at k)) (int_declared p))
  sum_judged n a w h k (holds d) (fails e) = aim_no a (right_unfit h k e)
  sum_judged n a w h k (fails d) e = aim_no a (left_unfit h k d)

  -- The walk answers by the rules: a type that they give, or the first no in the walk's order.
  pub judged : (Γ : List Slot) (e : Expr) (a : Aim) → WfEnv p Γ → AimType p a → Formed p e → Judged p Γ e a (answer p Γ e a)
  unfolding answer Aimed
  judged Γ (null n) infers w i f = refuses null_inferred
  judged Γ (null n) (checks t) w i f = null_judged w ((type_wf p t).0 i) (decides_int p t)
  judged Γ (var n x) a w i f =
      by_variable (Aimed Γ (var n x) a) n Γ x _
      (λ h. aim_no a (var_unbound h))
      (λ t h. aim_yes a refl (BD-INFER-VAR w h))
  judged Γ (select n x g) a w i f =
      by_variable (Aimed Γ (select n x g) a) n Γ x _ (λ h. aim_no a (select_unbound h))
      (λ t h. by_found (Aimed Γ (select n x g) a) Members n (field_in p t g) _
      (λ k. aim_no a (select_missing h (field_none p ok t g k)))
      (λ u k. let l = (field_in_lem p ok t g u).0 k in aim_yes a refl (BD-INFER-SELECT (BD-INFER-VAR w h) l any_field)))
  judged Γ (update n x g e) a w i f =
      by_variable (Aimed Γ (update n x g e) a) n Γ x _ (λ h. aim_no a (update_unbound h))
      (λ t h. by_found (Aimed Γ (update n x g e) a) Members n (field_in p t g) _
      (λ k. aim_no a (update_missing h (field_none p ok t g k)))
      (λ u k. let l = (field_in_lem p ok t g u).0 k in
      by_checked (λ r. Aimed Γ (update n x g e) a (and_then r (λ v. Ok 0))) (judged Γ e (checks u) w (field_type p ok l) f)
      (λ q m c. aim_no a (update_part h l c))
      (λ c. aim_yes a refl (BD-INFER-UPDATE (BD-INFER-VAR w h) c l any_field))))
  judged Γ (call n x m e) a w i f =
      by_variable (Aimed Γ (call n x m e) a) n Γ x _ (λ h. aim_no a (call_unbound h))
      (λ t h. by_found (Aimed Γ (call n x m e) a) Members n (method_in p t m) _
      (λ k. aim_no a (call_missing h (method_none p ok t m k)))
      (λ g k. let l = method_in_lem p ok t m g k in
      by_checked (λ r. Aimed Γ (call n x m e) a (and_then r (λ v. Ok g.result))) (judged Γ e (checks g.param) w (signature_types p ok l.0).param f)
      (λ q j c. aim_no a (call_part h l.0 l.1 c))
      (λ c. aim_yes a refl (rw l.1 at (BD-INFER-CALL (BD-INFER-VAR {n = n} w h) c l.0 any_method)))))
  judged Γ (bind n x e₁ e₂) a w i f =
      by_inferred (λ r. Judged p Γ (bind n x e₁ e₂) a (and_then r (λ t. answer p (record { name = x; type = t } ∷ Γ) e₂ a))) (judged Γ e₁ infers w tt f.0)
      (λ q k h. refuses (let_first h))
      (λ t h. let_judged h (judged (record { name = x; type = t } ∷ Γ) e₂ a (env_more p Γ x t w (infer_type h)) i f.1))
  judged Γ (new n t) a w i f = aim_yes a refl (BD-INFER-NEW w (a_class_at p t f).1)
  judged Γ (cast n t e) a w i f =
      by_checked (Aimed Γ (cast n t e) a) (judged Γ e (checks t) w f.0 f.1)
      (λ q k c. aim_no a (cast_part c))
      (λ c. aim_yes a refl (BD-INFER-CAST c))
  judged Γ (fork n e₁ e₂ e₃) a w i f =
      by_sharing (Judged p Γ (fork n e₁ e₂ e₃) a) n _ e₁ e₂ (decides_sharing e₁ e₂)
      (λ h. refuses (fork_shares h.left h.right))
      (λ d. by_inferred (λ r. Judged p Γ (fork n e₁ e₂ e₃) a (and_then r (λ t. and_then (inferred p Γ e₂) (λ u. answer p Γ e₃ a)))) (judged Γ e₁ infers w tt f.0)
      (λ q k h. refuses (fork_left d h))
      (λ t h. by_inferred (λ r. Judged p Γ (fork n e₁ e₂ e₃) a (and_then r (λ u. answer p Γ e₃ a))) (judged Γ e₂ infers w tt f.1)
      (λ q k l. refuses (fork_right d h l))
      (λ u l. fork_judged d h l (judged Γ e₃ a w i f.2))))
  judged Γ (lock n x e) a w i f =
      by_variable (Judged p Γ (lock n x e) a) n Γ x _ (λ h. refuses (lock_unbound h)) (λ t h. lock_judged w h (decides_int p t) (judged Γ e a w i f))
  judged Γ (constant n z) a w i f = aim_yes a refl (BD-INFER-INT w (int_declared p))
  judged Γ (add n x y) a w i f =
      by_variable (Aimed Γ (add n x y) a) n Γ x _ (λ h. aim_no a (left_unbound h))
      (λ t h. by_variable (Aimed Γ (add n x y) a) n Γ y _ (λ k. aim_no a (right_unbound k))
      (λ u k. sum_judged n a w h k (decides_int p t) (decides_int p u)))

  -- So a type that is inferred is one that the rules give.
  pub inferred_typed : (Γ : List Slot) (e : Expr) (t : ℕ) → WfEnv p Γ → Formed p e → inferred p Γ e ≡ Ok t → Infer p Γ e t
  inferred_typed Γ e t w f = go (judged Γ e infers w tt f)
    where
      go : {r : Answer} → Judged p Γ e infers r → r ≡ Ok t → Infer p Γ e t
      go (types {t = u} h) e = let q : u ≡ t = cc in rw q at h
      go (refuses h) e = absurd (let z : ◌≡◌ {A = ℕ} 0 1 = cc in omega arith)

-- So is its innermost last part.
pub infer_ends : {p : Program} {Γ : List Slot} {e : Expr} {t : ℕ} → Infer p Γ e t → is_null (last_of e) ≡ false
infer_ends (BD-INFER-VAR w h) = refl
infer_ends (BD-INFER-LET h k) = infer_ends k
infer_ends (BD-INFER-CALL h c m o) = refl
infer_ends (BD-INFER-CAST c) = refl
infer_ends (BD-INFER-SELECT h g o) = refl
infer_ends (BD-INFER-UPDATE h c g o) = refl
infer_ends (BD-INFER-NEW w h) = refl
infer_ends (BD-INFER-LOCK h o k) = infer_ends k
infer_ends (BD-INFER-FJ d h k l) = infer_ends l
infer_ends (BD-INFER-INT w d) = refl
infer_ends (BD-INFER-ADD h k d) = refl

-- Answers with two aims are related as those of the innermost last part are, if every no is related to itself.
module _ (p : Program) (R : Answer → Answer → Type 0) (same : (q : Question) (n : Point) → R (faulty q n) (faulty q n)) where
  last_after : (r : Answer) (f g : ℕ → Answer) → ((t : ℕ) → R (f t) (g t)) → R (and_then r f) (and_then r g)
  last_after (Ok t) f g h = h t
  last_after (Err k) f g h = same k.question k.node

  last_apart : (b : Bool) (n : Point) (r o : Answer) → R r o → R (unless_shared b n r) (unless_shared b n o)
  last_apart true n r o h = same _ n
  last_apart false n r o h = h

  last_bound : (n : Point) (a : Option ℕ) (f g : ℕ → Answer) → ((t : ℕ) → R (f t) (g t)) → R (or_faulty Variables n a f) (or_faulty Variables n a g)
  last_bound n none f g h = same Variables n
  last_bound n (some t) f g h = h t

  last_used : (u : Option Question) (n : Point) (r o : Answer) → R r o → R (unless_no u n r) (unless_no u n o)
  last_used none n r o h = h
  last_used (some q) n r o h = same q n

  pub by_last : (a b : Aim) (e : Expr) → ((Γ : List Slot) → R (answer p Γ (last_of e) a) (answer p Γ (last_of e) b)) → (Γ : List Slot) → R (answer p Γ e a) (answer p Γ e b)
  unfolding answer
  by_last a b (null n) h Γ = h Γ
  by_last a b (var n x) h Γ = h Γ
  by_last a b (select n x f) h Γ = h Γ
  by_last a b (update n x f e) h Γ = h Γ
  by_last a b (call n x m e) h Γ = h Γ
  by_last a b (bind n x e₁ e₂) h Γ = last_after (inferred p Γ e₁) _ _ (λ t. by_last a b e₂ h (record { name = x; type = t } ∷ Γ))
  by_last a b (new n c) h Γ = h Γ
  by_last a b (cast n t e) h Γ = h Γ
  by_last a b (fork n e₁ e₂ e₃) h Γ = last_apart (shares (fv e₁) (fv e₂)) n _ _ (last_after (inferred p Γ e₁) _ _ (λ t. last_after (inferred p Γ e₂) _ _ (λ u. by_last a b e₃ h Γ)))
  by_last a b (lock n x e) h Γ = last_bound n (type_in Γ x) _ _ (λ t. last_used (use_no p n (of_lock t)) n _ _ (by_last a b e h Γ))
  by_last a b (constant n z) h Γ = h Γ
  by_last a b (add n x y) h Γ = h Γ

module _ (p : Program) where
  last_as : (e : Expr) (t : ℕ) → is_null (last_of e) ≡ false → (Γ : List Slot) → checked p Γ (last_of e) t ≡ aimed p (point_of (last_of e)) (checks t) (inferred p Γ (last_of e))
  unfolding answer
  last_as (null n) t h Γ = absurd (let z : ◌≡◌ {A = ℕ} 0 1 = cc in omega arith)
  last_as (var n x) t h Γ = refl
  last_as (select n x f) t h Γ = refl
  last_as (update n x f e) t h Γ = refl
  last_as (call n x m e) t h Γ = refl
  last_as (bind n x e₁ e₂) t h Γ = last_as e₂ t h Γ
  last_as (new n c) t h Γ = refl
  last_as (cast n u e) t h Γ = refl
  last_as (fork n e₁ e₂ e₃) t h Γ = last_as e₃ t h Γ
  last_as (lock n x e) t h Γ = last_as e t h Γ
  last_as (constant n z) t h Γ = refl
  last_as (add n x y) t h Γ = refl

  -- Where the innermost last part is no null, an expression is checked as it is inferred, and that part is asked to fit: so every verdict is that of Figure 11,
  -- and only the place of 14 is another.
  pub checked_as : (Γ : List Slot) (e : Expr) (t : ℕ) → is_null (last_of e) ≡ false → checked p Γ e t ≡ aimed p (point_of (last_of e)) (checks t) (inferred p Γ e)
  checked_as Γ e t h = by_last p (λ r o. o ≡ aimed p (point_of (last_of e)) (checks t) r) (λ q n. refl) infers (checks t) e (last_as e t h) Γ

module _ (p : Program) (ok : Regular p) (one : MsigsFunction p) where
  apart : (e₁ e₂ : Expr) → Disjoint e₁ e₂ → shares (fv e₁) (fv e₂) ≡ false
  apart e₁ e₂ d = no_said (decides_sharing e₁ e₂) (λ h. d h.variable h.left h.right)

  below_true : {t u : ℕ} → Sub p t u → below p t u ≡ true
  below_true {t} {u} h = (below_sub p ok t u ((type_wf p t).1 (sub_types p ok h).0)).1 h

  mutual
    unfolding answer

    -- Every type that the rules give is the walk's answer.
    pub infer_complete : {Γ : List Slot} {e : Expr} {t : ℕ} → Infer p Γ e t → inferred p Γ e ≡ Ok t
    infer_complete (BD-INFER-VAR w h) = rw (type_in_lem h)
    infer_complete (BD-INFER-LET {x = x} h k) = rw (infer_complete h) (infer_complete k)
    infer_complete (BD-INFER-CALL (BD-INFER-VAR w h) c m o) = rw (type_in_lem h, method_only p ok one _ _ m, check_complete c)
    infer_complete (BD-INFER-CAST c) = check_complete c
    infer_complete (BD-INFER-SELECT (BD-INFER-VAR w h) g o) = rw (type_in_lem h, (field_in_lem p ok _ _ _).1 g)
    infer_complete (BD-INFER-UPDATE (BD-INFER-VAR w h) c g o) = rw (type_in_lem h, (field_in_lem p ok _ _ _).1 g, check_complete c)
    infer_complete (BD-INFER-NEW w h) = refl
    infer_complete (BD-INFER-LOCK (BD-INFER-VAR w h) o k) = rw (type_in_lem h, (use_exactly p _ _).1 o) (infer_complete k)
    infer_complete (BD-INFER-FJ {e₁ = e₁} {e₂ = e₂} d h k l) = rw (apart e₁ e₂ d, infer_complete h, infer_complete k) (infer_complete l)
    infer_complete (BD-INFER-INT {t = t} w d) = rw (declared_int p t d)
    infer_complete (BD-INFER-ADD {t = t} (BD-INFER-VAR w h) (BD-INFER-VAR v k) d) = rw (type_in_lem h, type_in_lem k, yes_said (decides_int p t) d, declared_int p t d)

    pub check_complete : {Γ : List Slot} {e : Expr} {t : ℕ} → Check p Γ e t → checked p Γ e t ≡ Ok t
    check_complete (BD-CHECK-NULL {t = t} w i o) = rw (yes_said (null_fits_exactly p t) o)
    check_complete (BD-CHECK-SUB {Γ = Γ} {e = e} {t = t} h s n) = rw (checked_as p Γ e t (infer_ends h), infer_complete h, below_true s)
    check_complete (BD-CHECK-LET h c) = rw (infer_complete h) (check_complete c)
    check_complete (BD-CHECK-LOCK (BD-INFER-VAR w h) o c) = rw (type_in_lem h, (use_exactly p _ _).1 o) (check_complete c)
    check_complete (BD-CHECK-FJ {e₁ = e₁} {e₂ = e₂} d h k c) = rw (apart e₁ e₂ d, infer_complete h, infer_complete k) (check_complete c)

  -- Every first no is the walk's answer, so there is only one.
  pub no_complete : {Γ : List Slot} {e : Expr} {a : Aim} {q : Question} {k : Point} → ExprNo p Γ e a q k → answer p Γ e a ≡ faulty q k
  unfolding answer
  no_complete null_inferred = refl
  no_complete (var_unbound {Γ = Γ} {x = x} {a = a} h) = still_no p _ a (rw ((untyped_exactly Γ x).1 h))
  no_complete (select_unbound {Γ = Γ} {x = x} {a = a} h) = still_no p _ a (rw ((untyped_exactly Γ x).1 h))
  no_complete (update_unbound {Γ = Γ} {x = x} {a = a} h) = still_no p _ a (rw ((untyped_exactly Γ x).1 h))
  no_complete (call_unbound {Γ = Γ} {x = x} {a = a} h) = still_no p _ a (rw ((untyped_exactly Γ x).1 h))
  no_complete (lock_unbound {Γ = Γ} {x = x} h) = rw ((untyped_exactly Γ x).1 h)
  no_complete (left_unbound {Γ = Γ} {x = x} {a = a} h) = still_no p _ a (rw ((untyped_exactly Γ x).1 h))
  no_complete (right_unbound {Γ = Γ} {x = x} {y = y} {a = a} h) = still_no p _ a (rw ((untyped_exactly Γ y).1 h) (either_no _ (type_in Γ x)))
  no_complete (select_missing {f = f} {t = t} {a = a} h m) = still_no p _ a (rw (type_in_lem h, found_not (field_found p ok t f) m))
  no_complete (update_missing {f = f} {t = t} {a = a} h m) = still_no p _ a (rw (type_in_lem h, found_not (field_found p ok t f) m))
  no_complete (call_missing {m = m} {t = t} {a = a} h n) = still_no p _ a (rw (type_in_lem h, found_not (method_found p ok t m) (λ g k. n g k.0 k.1)))
  no_complete (lock_int {t = t} h d) = rw (type_in_lem h, yes_said (decides_int p t) d)
  no_complete (fork_shares {e₁ = e₁} {e₂ = e₂} l r) = rw (yes_said (decides_sharing e₁ e₂) (record { variable = _; left = l; right = r }))
  no_complete (update_part {a = a} h g c) = still_no p _ a (rw (type_in_lem h, (field_in_lem p ok _ _ _).1 g, no_complete c))
  no_complete (call_part {a = a} h g e c) = still_no p _ a (rw (type_in_lem h, ← e, method_only p ok one _ _ g, no_complete c))
  no_complete (cast_part {a = a} c) = still_no p _ a (no_complete c)
  no_complete (lock_part h o k) = rw (type_in_lem h, (use_exactly p _ _).1 o) (no_complete k)
  no_complete (let_first h) = rw (no_complete h)
  no_complete (let_last h k) = rw (infer_complete h) (no_complete k)
  no_complete (fork_left {e₁ = e₁} {e₂ = e₂} d h) = rw (apart e₁ e₂ d, no_complete h)
  no_complete (fork_right {e₁ = e₁} {e₂ = e₂} d h k) = rw (apart e₁ e₂ d, infer_complete h, no_complete k)
  no_complete (fork_last {e₁ = e₁} {e₂ = e₂} d h k l) = rw (apart e₁ e₂ d, infer_complete h, infer_complete k) (no_complete l)
  no_complete (left_unfit {t = t} {a = a} h k d) = still_no p _ a (rw (type_in_lem h, type_in_lem k, no_said (decides_int p t) d))
  no_complete (right_unfit {t = t} {u = u} {a = a} h k d) = still_no p _ a (rw (type_in_lem h, type_in_lem k, no_said (decides_and (decides_int p t) (decides_int p u)) (λ b. d b.1)))
  no_complete (null_unfit {t = t} d) = rw (yes_said (decides_int p t) d)
  no_complete (not_below {Γ = Γ} {e = e} {t' = t'} {t = t} h s at) =
      rw (checked_as p Γ e t (infer_ends h), at, infer_complete h, no_said (decides_below p ok t' t (infer_type p ok h)) s)
