-- What the rules BD-CHECK-LET, BD-CHECK-LOCK and BD-CHECK-FJ add to Figure 11: where an expression is checked, its innermost last part may be a null.
use mathlib.Core.Path.{◌≡◌, refl}
use mathlib.Core.Bool.{Bool, true, false}
use mathlib.Core.List.{List}
use mathlib.Core.Logic.{◌↔◌}
use Prim.Native.Nat.{ℕ}
use native.Mathlib.Omega.{arith}
use Rattle.script.specs.declared.Question.{Question}
use Rattle.script.specs.declared.Question.TheVariants.{Nulls, Fits}
use Rattle.script.specs.Syntax.{Point, Expr, null, var, select, update, call, bind, new, cast, fork, lock, constant, add, point_of, is_null, Slot, Program}
use Rattle.script.specs.Asking.{Decides, holds, fails}
use Rattle.typing.specs.declared.Aim.TheVariants.{Infers as infers, Checks as checks}
use Rattle.std.specs.declared.result.Result.TheVariants.{Ok}
use Rattle.typing.specs.Answers.{Answer, faulty}
use Rattle.typing.specs.Typing.{fits, answer, inferred, checked}
use Rattle.typing.specs.Published.{WfType, Sub, NullFits, Infer, BD-INFER-LET, BD-INFER-LOCK, BD-INFER-FJ, Check, BD-CHECK-NULL, BD-CHECK-SUB, BD-CHECK-LET, BD-CHECK-LOCK, BD-CHECK-FJ}
use Rattle.typing.specs.Refusals.{last_of}
use Rattle.typing.proofs.Int.{null_fits_exactly}
use Rattle.typing.proofs.Rules.{infer_null, infer_ends, by_last}

true_false : {A : Type 0} {b : Bool} → b ≡ true → b ≡ false → A
true_false h k = absurd (let z : ◌≡◌ {A = ℕ} 0 1 = cc in omega arith)

null_is : (e : Expr) → is_null e ≡ true → e ≡ null (point_of e)
null_is (null n) h = refl
null_is (var n x) h = true_false h refl
null_is (select n x f) h = true_false h refl
null_is (update n x f e) h = true_false h refl
null_is (call n x m e) h = true_false h refl
null_is (bind n x e₁ e₂) h = true_false h refl
null_is (new n c) h = true_false h refl
null_is (cast n t e) h = true_false h refl
null_is (fork n e₁ e₂ e₃) h = true_false h refl
null_is (lock n x e) h = true_false h refl
null_is (constant n z) h = true_false h refl
null_is (add n x y) h = true_false h refl

-- Nothing else is added: where the innermost last part is no null, Γ ⊢ e ⇐ t exactly if Γ ⊢ e ⇒ u for some u <: t.
pub plain_infers : (p : Program) (Γ : List Slot) (e : Expr) (t : ℕ) → is_null (last_of e) ≡ false → Check p Γ e t ↔ ((u : ℕ) × Infer p Γ e u × Sub p u t)
plain_infers p Γ e t h = (λ c. to c h, λ r. BD-CHECK-SUB r.1 r.2 (infer_null r.1))
  where
    to : {Γ : List Slot} {e : Expr} → Check p Γ e t → is_null (last_of e) ≡ false → (u : ℕ) × Infer p Γ e u × Sub p u t
    to (BD-CHECK-NULL w i o) h = true_false refl h
    to (BD-CHECK-SUB {t' = u} k s n) h = (u, k, s)
    to (BD-CHECK-LET k c) h = let r = to c h in (r.0, BD-INFER-LET k r.1, r.2)
    to (BD-CHECK-LOCK k o c) h = let r = to c h in (r.0, BD-INFER-LOCK k o r.1, r.2)
    to (BD-CHECK-FJ d k l c) h = let r = to c h in (r.0, BD-INFER-FJ d k l r.1, r.2)

-- Where it is a null, it does not matter against which type that null fits.
pub null_ends : {p : Program} {Γ : List Slot} {e : Expr} {t u : ℕ} → is_null (last_of e) ≡ true → WfType p u → NullFits p u → Check p Γ e t → Check p Γ e u
null_ends h i f (BD-CHECK-NULL w j o) = BD-CHECK-NULL w i f
null_ends h i f (BD-CHECK-SUB k s n) = true_false h (infer_ends k)
null_ends h i f (BD-CHECK-LET k c) = BD-CHECK-LET k (null_ends h i f c)
null_ends h i f (BD-CHECK-LOCK k o c) = BD-CHECK-LOCK k o (null_ends h i f c)
null_ends h i f (BD-CHECK-FJ d k l c) = BD-CHECK-FJ d k l (null_ends h i f c)

-- What is inferred, and what is checked against t, where the innermost last part is the null k: the same no, or 12 at that null and a yes if null fits t, else
-- 14 there.
pub data NullEnd (p : Program) (k : Point) (t : ℕ) : Answer → Answer → Type 0 where
  same_no : {q : Question} {n : Point} → NullEnd p k t (faulty q n) (faulty q n)
  now_typed : NullFits p t → NullEnd p k t (faulty Nulls k) (Ok t)
  now_unfit : (NullFits p t → ⊥) → NullEnd p k t (faulty Nulls k) (faulty Fits k)

null_aimed : {p : Program} {k : Point} {t : ℕ} {b : Bool} → Decides (NullFits p t) b → NullEnd p k t (faulty Nulls k) (fits b k t)
null_aimed (holds f) = now_typed f
null_aimed (fails n) = now_unfit n

-- So a yes is new, and only in place of 12 at that null.
pub null_end : (p : Program) (Γ : List Slot) (e : Expr) (t : ℕ) → is_null (last_of e) ≡ true → NullEnd p (point_of (last_of e)) t (inferred p Γ e) (checked p Γ e t)
unfolding answer
null_end p Γ e t h =
    by_last p (NullEnd p (point_of (last_of e)) t) (λ q n. same_no) infers (checks t) e
    (λ Γ. rw (null_is (last_of e) h) (null_aimed (null_fits_exactly p t)))
    Γ
