-- The type of a node, as its kind and its own words tell it: one law for each kind.
use mathlib.Core.Path.{◌≡◌, refl, sym, ap, ◌∙◌}
use mathlib.Core.List.{List}
use mathlib.Core.Option.{Option, none, some}
use Prim.Native.Nat.{ℕ}
use native.Mathlib.Omega.{arith}
use Rattle.script.specs.declared.Question.TheVariants.{Members}
use Rattle.std.specs.declared.option.Option.{Option as CodeOption}
use Rattle.std.specs.declared.option.Option.TheVariants.{Some, None}
use Rattle.script.specs.declared.Kind.TheVariants.{Variable as var_kind, Select as select_kind, Update as update_kind, Call as call_kind}
use Rattle.script.specs.declared.Kind.TheVariants.{New as new_kind, Cast as cast_kind, Constant as constant_kind, Sum as add_kind}
use Rattle.script.specs.Section.{node_word}
use Rattle.script.specs.Statements.{WithinLayout}
use Rattle.script.specs.Syntax.{Point, Expr, update, cast, add, int_of, Slot, Signature, Program}
use Rattle.script.specs.Reading.{kind_of, expr_at, program_of}
use Rattle.script.proofs.Declarations.{declared_int}
use Rattle.script.proofs.Reading.{expr_as}
use Rattle.script.proofs.Regular.{formed, regular}
use Rattle.sections.specs.Laid.{found_of}
use Rattle.std.specs.declared.result.Result.TheVariants.{Ok, Err}
use Rattle.typing.specs.Answers.{Answer}
use Rattle.typing.specs.Members.{type_in, field_in, method_in}
use Rattle.typing.specs.Published.{Infer, BD-INFER-UPDATE, BD-INFER-CAST, BD-INFER-ADD}
use Rattle.typing.specs.Typing.{answer, and_then, or_faulty, inferred, checked}
use Rattle.typing.proofs.Rules.{inferred_typed}
use Rattle.members.specs.declared.Types.{Types}
use Rattle.members.specs.Lookup.{member_of}
use Rattle.members.proofs.LookupLaws.{found_at}
use Rattle.machine.specs.Machine.{context}
use Rattle.environments.specs.Chains.{bindings_in}
use Rattle.environments.specs.Known.{ScopedNode, Inferable, Tells}

-- what goes on after a check with its own type has that type, if any
after : (q : Answer) (u t : ℕ) → and_then q (λ v. Ok u) ≡ Ok t → u ≡ t
after (Ok v) u t e = cc
after (Err _) u t e = absurd (let z : ◌≡◌ {A = ℕ} 0 1 = cc in omega arith)

result_is : (n : Point) (k : ℕ → Answer) (o : Option Signature) (r : CodeOption Types) (m : Types) (t : ℕ)
    → r ≡ member_of o → r ≡ Some m → or_faulty Members n o (λ g. and_then (k g.param) (λ v. Ok g.result)) ≡ Ok t → m.result ≡ t
result_is n k none r m t e f h = absurd (let z : ◌≡◌ {A = ℕ} 0 1 = cc in omega arith)
result_is n k (some g) r m t e f h = let z : m ≡ record { param = g.param; result = g.result } = cc in ap (λ (x : Types). x.result) z ∙ after (k g.param) g.result t h

-- a write has type Unit, and a cast its own
write_unit : {p : Program} {Γ : List Slot} {n x f t : ℕ} {e : Expr} → Infer p Γ (update n x f e) t → 0 ≡ t
write_unit (BD-INFER-UPDATE h c f o) = refl

cast_own : {p : Program} {Γ : List Slot} {n u t : ℕ} {e : Expr} → Infer p Γ (cast n u e) t → u ≡ t
cast_own (BD-INFER-CAST h) = refl

-- a sum has type Int
sum_int : {p : Program} {Γ : List Slot} {n x y t : ℕ} → Infer p Γ (add n x y) t → int_of p ≡ t
sum_int {p} {t = t} (BD-INFER-ADD f g e) = sym (declared_int p t e)

-- nothing is told
pub told_nothing : (s b : List ℕ) (env : ℕ) (a : Point) → Tells s b env a None
told_nothing s b env a t e = absurd (let z : ◌≡◌ {A = ℕ} 0 1 = cc in omega arith)

module _ {s b : List ℕ} {env : ℕ} {a : Point} (w : WithinLayout s) (k : ScopedNode s b env a) where
  -- a type that is told is inferred, so it is small
  judged : (t : ℕ) → inferred (program_of s) (context (bindings_in b) env) (expr_at s a) ≡ Ok t → Infer (program_of s) (context (bindings_in b) env) (expr_at s a) t
  judged t e =
      inferred_typed (program_of s) (regular s w) (context (bindings_in b) env) (expr_at s a) t k.types (formed s w a k.there) e

  -- a variable and a new object
  module _ (x : ℕ) (ex : x ≡ node_word s a 1) where
    pub told_var : kind_of (node_word s a 0) ≡ var_kind → (r : CodeOption ℕ) → r ≡ found_of (type_in (context (bindings_in b) env) x) → Tells s b env a r
    unfolding kind_of answer
    told_var e r h t f = rw (expr_as s w a k.there var_kind e, ← ex, found_at (type_in (context (bindings_in b) env) x) r h t f)

    pub told_new : kind_of (node_word s a 0) ≡ new_kind → Tells s b env a (Some x)
    unfolding kind_of answer
    told_new e t f = let z : x ≡ t = cc in rw (expr_as s w a k.there new_kind e, ← ex, z)

    -- a read and a call, by the type of the target
    module _ (v : CodeOption ℕ) (ev : v ≡ found_of (type_in (context (bindings_in b) env) x)) (c : ℕ) (fv : v ≡ Some c) (m : ℕ) (em : m ≡ node_word s a 2) where
      pub told_read : kind_of (node_word s a 0) ≡ select_kind → (r : CodeOption ℕ) → r ≡ found_of (field_in (program_of s) c m) → Tells s b env a r
      unfolding kind_of answer
      told_read e r h t f =
          rw (expr_as s w a k.there select_kind e, ← ex, found_at (type_in (context (bindings_in b) env) x) v ev c fv, ← em, found_at (field_in (program_of s) c m) r h t f)

      pub told_call : kind_of (node_word s a 0) ≡ call_kind → Inferable s b env a → (r : CodeOption Types) → r ≡ member_of (method_in (program_of s) c m) → (u : Types) → r ≡ Some u → Tells s b env a (Some u.result)
      unfolding kind_of answer
      told_call e i r h u f t g =
          let z : u.result ≡ t = cc in
          i.is ∙ ap Ok (sym (result_is a (checked (program_of s) (context (bindings_in b) env) (expr_at s (node_word s a 3))) (method_in (program_of s) c m) r u i.type h f (sym call_is ∙ i.is)) ∙ z)
        where
          call_is : inferred (program_of s) (context (bindings_in b) env) (expr_at s a)
              ≡ or_faulty Members a (method_in (program_of s) c m) (λ g. and_then (checked (program_of s) (context (bindings_in b) env) (expr_at s (node_word s a 3)) g.param) (λ v. Ok g.result))
          call_is = rw (expr_as s w a k.there call_kind e, ← ex, found_at (type_in (context (bindings_in b) env) x) v ev c fv, ← em)

    -- a cast and a write that have a type
    pub told_cast : kind_of (node_word s a 0) ≡ cast_kind → Inferable s b env a → Tells s b env a (Some x)
    unfolding kind_of
    told_cast e i t f = let z : x ≡ t = cc in i.is ∙ ap Ok (sym (cast_own (rw (expr_as s w a k.there cast_kind e, ← ex) at (judged i.type i.is))) ∙ z)

  pub told_write : kind_of (node_word s a 0) ≡ update_kind → Inferable s b env a → Tells s b env a (Some 0)
  unfolding kind_of
  told_write e i t f = let z : 0 ≡ t = cc in i.is ∙ ap Ok (sym (write_unit (rw (expr_as s w a k.there update_kind e) at (judged i.type i.is))) ∙ z)

  -- a constant, and a sum that has a type
  module _ (z : ℕ) (ez : z ≡ int_of (program_of s)) where
    pub told_constant : kind_of (node_word s a 0) ≡ constant_kind → Tells s b env a (Some z)
    unfolding kind_of answer
    told_constant e t f = let q : z ≡ t = cc in rw (expr_as s w a k.there constant_kind e, ← ez, q)

    pub told_sum : kind_of (node_word s a 0) ≡ add_kind → Inferable s b env a → Tells s b env a (Some z)
    unfolding kind_of
    told_sum e i t f =
        let q : z ≡ t = cc in
        i.is ∙ ap Ok (sym (sum_int (rw (expr_as s w a k.there add_kind e) at (judged i.type i.is))) ∙ sym ez ∙ q)
