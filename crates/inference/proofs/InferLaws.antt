-- How the walk answers at a node, as the code goes: one law for each answer, with what was read and answered on the way.
use mathlib.Core.Path.{◌≡◌, refl, sym, ap, ◌∙◌}
use mathlib.Core.Bool.{Bool, true, false, ◌&&◌}
use mathlib.Core.List.{List, ◌∷◌}
use mathlib.Core.Option.{Option, none, some}
use Prim.Native.Nat.{ℕ, ◌+◌, ◌*◌, ◌<◌, ◌≤◌}
use native.Mathlib.Omega.{arith}
use lib.Dec.{eqb}
use lib.ListN.{length, get_or, set, length-set}
use lib.Seq.{get_or-set_same, get_or-set_other, set-get_or, set-set}
use borrow.Author.Tests.{eqb-true, eqb-false, eq-eqb, ne_eqb}
use Rattle.limits.specs.Limits.{INTERFACES, CLASSES}
use Rattle.script.specs.declared.Question.{Question}
use Rattle.script.specs.declared.Question.TheVariants.{Variables, Members, Sharing}
use Rattle.std.specs.declared.option.Option.{Option as CodeOption}
use Rattle.std.specs.declared.option.Option.TheVariants.{Some, None}
use Rattle.script.specs.declared.Section.TheVariants.{Interfaces as interfaces, Classes as classes, Nodes as nodes}
use Rattle.script.specs.Lists.{◌∈◌, named}
use Rattle.script.specs.Section.{count_of, node_word}
use Rattle.script.specs.Syntax.{Point, Expr, null, var, select, update, call, lock, add, point_of, is_null, parts, build, Slot, Signature, Program, int_of}
use Rattle.script.specs.Reading.{kind_of, expr_at, program_of}
use Rattle.script.specs.declared.Kind.{Kind}
use Rattle.script.specs.declared.Kind.TheVariants.{Null as null_kind, Variable as var_kind, Select as select_kind, Update as update_kind, Call as call_kind}
use Rattle.script.specs.declared.Kind.TheVariants.{Let as bind_kind, New as new_kind, Cast as cast_kind, Fork as fork_kind, Lock as lock_kind}
use Rattle.script.specs.declared.Kind.TheVariants.{Constant as constant_kind, Sum as add_kind}
use Rattle.script.specs.Statements.{Part, WithinLayout}
use Rattle.sections.specs.Laid.{found_of}
use Rattle.script.specs.Regular.{IsType}
use Rattle.script.proofs.Declarations.{length_interfaces, length_classes}
use Rattle.script.proofs.Reading.{first, node_as, view_as, expr_as, part_as}
use Rattle.script.proofs.Regular.{formed, regular}
use Rattle.typing.specs.declared.Aim.{Aim}
use Rattle.typing.specs.declared.Aim.TheVariants.{Infers as infers, Checks as checks}
use Rattle.std.specs.declared.result.Result.TheVariants.{Ok, Err}
use Rattle.typing.specs.Answers.{Answer, faulty}
use Rattle.std.specs.declared.result.Result.{Result}
use Rattle.std.specs.Option.{ok_or}
use Rattle.std.specs.Result.{IsErrAnd}
use Rattle.std.proofs.lemmas.Result.{err_from_is_err_and}
use Rattle.typing.specs.declared.Fault.{Fault}
use Rattle.members.specs.declared.Types.{Types}
use Rattle.members.specs.declared.code.Code.{Code}
use Rattle.members.proofs.CodeLaws.{facts_of}
use Rattle.typing.specs.Members.{type_in, field_in, method_in}
use Rattle.typing.specs.Environments.{of_lock}
use Rattle.typing.specs.Typing.{fv, shares, and_then, or_faulty, unless_shared, fits, int_test, use_no, unless_no, aimed, answer, inferred, checked}
use Rattle.typing.specs.Refusals.{last_of}
use Rattle.names.specs.Ranks.{RANKS, name_in, Names, RankOf}
use Rattle.slices.specs.Bits.{flag_of}
use Rattle.names.specs.Facts.{Facts}
use Rattle.names.proofs.SearchLaws.{rank_first}
use Rattle.members.specs.Lookup.{member_of}
use Rattle.inference.specs.Tables.{bound_word, EnvIs}
use Rattle.inference.specs.Walk.{Target, NodeInEnv, Inferred, Checked, locked_type, Lockable}
use Rattle.inference.specs.declared.Given.{Given}
use Rattle.inference.specs.declared.Given.TheVariants.{Null as null-at}
use Rattle.inference.specs.Given.{inferred_as, answer_as, outcome_as, GivenAs, given_by}
use Rattle.typing.proofs.Rules.{env_more, infer_type, inferred_typed, checked_as}

-- What is found is gone on with as its type would be.
found_then : (q : Question) (n : Point) (o : Option ℕ) (k : ℕ → Answer) → or_faulty q n o k ≡ and_then (or_faulty q n o (λ t. Ok t)) k
found_then q n none k = refl
found_then q n (some t) k = refl

-- What a node is inferred as, by what is inferred first: its target variable, or the field that it names.
module _ (p : Program) (Γ : List Slot) (n x : ℕ) where
  select_is : (f : ℕ) → inferred p Γ (select n x f) ≡ and_then (inferred p Γ (var n x)) (λ t. or_faulty Members n (field_in p t f) (λ u. Ok u))
  unfolding answer
  select_is f = found_then Variables n (type_in Γ x) _

  update_is : (f : ℕ) (e : Expr) → inferred p Γ (update n x f e) ≡ and_then (inferred p Γ (select n x f)) (λ u. and_then (checked p Γ e u) (λ v. Ok 0))
  unfolding answer
  update_is f e = go (type_in Γ x) _
    where
      go :
          (o : Option ℕ) (k : ℕ → Answer)
          → or_faulty Variables n o (λ t. or_faulty Members n (field_in p t f) k) ≡ and_then (or_faulty Variables n o (λ t. or_faulty Members n (field_in p t f) (λ u. Ok u))) k
      go none k = refl
      go (some t) k = found_then Members n (field_in p t f) k

  call_is :
      (m : ℕ) (e : Expr)
      → inferred p Γ (call n x m e) ≡ and_then (inferred p Γ (var n x)) (λ t. or_faulty Members n (method_in p t m) (λ g. and_then (checked p Γ e g.param) (λ v. Ok g.result)))
  unfolding answer
  call_is m e = found_then Variables n (type_in Γ x) _

  target_is : locked_type p Γ n x ≡ and_then (inferred p Γ (var n x)) (λ t. unless_no (use_no p n (of_lock t)) n (Ok t))
  unfolding answer
  target_is = found_then Variables n (type_in Γ x) _

  lock_is : (e : Expr) (a : Aim) → answer p Γ (lock n x e) a ≡ and_then (locked_type p Γ n x) (λ t. answer p Γ e a)
  unfolding answer
  lock_is e a = go (type_in Γ x) (answer p Γ e a)
    where
      used : (u : Option Question) (t : ℕ) (r : Answer) → unless_no u n r ≡ and_then (unless_no u n (Ok t)) (λ v. r)
      used none t r = refl
      used (some q) t r = refl

      go : (o : Option ℕ) (r : Answer)
          → or_faulty Variables n o (λ t. unless_no (use_no p n (of_lock t)) n r) ≡ and_then (or_faulty Variables n o (λ t. unless_no (use_no p n (of_lock t)) n (Ok t))) (λ v. r)
      go none r = refl
      go (some t) r = used (use_no p n (of_lock t)) t r

  add_is : (y : ℕ)
      → inferred p Γ (add n x y) ≡ and_then (inferred p Γ (var n x)) (λ t. and_then (inferred p Γ (var n y)) (λ u. fits (int_test p t && int_test p u) n (int_of p)))
  unfolding answer
  add_is y = go (type_in Γ x) (type_in Γ y) _
    where
      go : (o r : Option ℕ) (k : ℕ → ℕ → Answer)
          → or_faulty Variables n o (λ t. or_faulty Variables n r (k t)) ≡ and_then (or_faulty Variables n o (λ t. Ok t)) (λ t. and_then (or_faulty Variables n r (λ u. Ok u)) (k t))
      go none r k = refl
      go (some t) none k = refl
      go (some t) (some u) k = refl

-- The table of an environment: a variable's word, and one more variable.
module _ {s facts env : List ℕ} {Γ : List Slot} (g : EnvIs s facts env Γ) where
  -- a word of 0 says that the variable has no type, and any other is the type and 1 more
  module _ (n : Point) (x k : ℕ) (h : RankOf s facts x k) where
    pub unbound : get_or env k 0 ≡ 0 → faulty Variables n ≡ inferred (program_of s) Γ (var n x)
    unfolding answer
    unbound z = go (type_in Γ x) (sym (g.holds h) ∙ z)
      where
        go : (o : Option ℕ) → bound_word o ≡ 0 → faulty Variables n ≡ or_faulty Variables n o (λ t. Ok t)
        go none e = refl
        go (some t) e = absurd (omega arith)

    pub bound : (t : ℕ) → get_or env k 0 ≡ t + 1 → Ok t ≡ inferred (program_of s) Γ (var n x)
    unfolding answer
    bound t z = go (type_in Γ x) (g.holds h)
      where
        go : (o : Option ℕ) → get_or env k 0 ≡ bound_word o → Ok t ≡ or_faulty Variables n o (λ t. Ok t)
        go none e = absurd (omega arith)
        go (some u) e = ap Ok (omega arith)

  pub env_bind : (x k t : ℕ) → Facts s facts → RankOf s facts x k → k < length env → IsType (program_of s) t → EnvIs s facts (set env k (t + 1)) (record { name = x; type = t } ∷ Γ)
  unfolding type_in named
  env_bind x k t r h l i = record { types = env_more (program_of s) Γ x t g.types i; holds = λ {x = y} {k = m} j. at y m (eqb x y) refl j }
    where
      at : (y m : ℕ) (b : Bool) → eqb x y ≡ b → RankOf s facts y m → get_or (set env k (t + 1)) m 0 ≡ bound_word (type_in (record { name = x; type = t } ∷ Γ) y)
      at y m true e j =
          let q : x ≡ y = eqb-true x y e in
          let same : k ≡ m = r.ranked.same h (rw q j) in
          rw (e, ← same, get_or-set_same env k (t + 1) 0 l) (omega arith)
      at y m false e j = rw (e, get_or-set_other env k m (t + 1) 0 (λ q. eqb-false x y e (r.ranked.apart h (rw (sym q) j)))) (g.holds j)

-- A variable's word is stored over, and put back after a walk that left the table as it was.
pub word_there : {x : ℕ} {env env₁ : List ℕ} → env₁ ≡ env → x < length env → x < length env₁
word_there e₁ h = rw e₁ h

pub word_still : (x v : ℕ) {env env₁ env₂ : List ℕ} → env₁ ≡ env → x < length env → env₂ ≡ set env₁ x v → x < length env₂
word_still x v {env₁ = env₁} e₁ h e₂ = rw (e₂, length-set env₁ x v, e₁) h

pub word_back : (x v : ℕ) {env env₁ env₂ : List ℕ} → env₁ ≡ env → env₂ ≡ set env₁ x v → set env₂ x (get_or env₁ x 0) ≡ env
word_back x v {env₁ = env₁} e₁ e₂ = rw (e₂, set-set env₁ x v (get_or env₁ x 0), set-get_or env₁ x 0) e₁

-- A node has its slots in the table of facts.
pub fact_there : {s facts : List ℕ} {n : Point} → Facts s facts → WithinLayout s → n < count_of s nodes → 2 * n + 1 < length facts
fact_there f w h = omega (arith, f.ranked.size, h, w.counts_are.within nodes)

pub rank_small : {s facts : List ℕ} {x k : ℕ} → Facts s facts → RankOf s facts x k → k < RANKS
rank_small f r = omega (arith, f.ranked.below r, f.ranked.few)

module _ {s : List ℕ} (w : WithinLayout s) where
  -- Type numbers are far below the largest word.
  pub type_small : (t : ℕ) → IsType (program_of s) t → t ≤ INTERFACES + CLASSES + 1
  type_small t h = omega (arith, rw (length_interfaces s, length_classes s) at h, w.counts_are.within interfaces, w.counts_are.within classes)

  -- What is inferred for a node is a type.
  inferred_type : (n : Point) → n < count_of s nodes → (facts env : List ℕ) (Γ : List Slot) → EnvIs s facts env Γ → (t : ℕ) → inferred (program_of s) Γ (expr_at s n) ≡ Ok t → IsType (program_of s) t
  inferred_type n h facts env Γ g t e = infer_type (program_of s) (regular s w) (inferred_typed (program_of s) (regular s w) Γ (expr_at s n) t g.types (formed s w n h) e)

-- What a look-up comes to.
module _ (n : Point) where
  found_or : (o : Option ℕ) (r : CodeOption ℕ) → r ≡ found_of o → or_faulty Members n o (λ u. Ok u) ≡ ok_or r (record { question = Members; node = n })
  found_or none r e = rw e
  found_or (some v) r e = rw e

  member_none : (o : Option Signature) (r : CodeOption Types) (k : Signature → Answer) → r ≡ member_of o → r ≡ None → or_faulty Members n o k ≡ faulty Members n
  member_none none r k e f = refl
  member_none (some g) r k e f = absurd (let y : ◌≡◌ {A = ℕ} 0 1 = cc in omega arith)

  member_some : (o : Option Signature) (r : CodeOption Types) (z : Types) (k : ℕ → ℕ → Answer) → r ≡ member_of o → r ≡ Some z → or_faulty Members n o (λ g. k g.param g.result) ≡ k z.param z.result
  member_some none r z k e f = absurd (let y : ◌≡◌ {A = ℕ} 0 1 = cc in omega arith)
  member_some (some g) r z k e f = let y : record { param = g.param; result = g.result } ≡ z = cc in rw (← y)

  shared_is : (b : Bool) (r : Answer) → flag_of b ≡ 1 → faulty Sharing n ≡ unless_shared b n r
  shared_is true r e = refl
  shared_is false r e = absurd (omega arith)

  apart_is : (b : Bool) (r : Answer) → (flag_of b ≡ 1 → ⊥) → unless_shared b n r ≡ r
  apart_is true r e = absurd (e refl)
  apart_is false r e = refl

-- What the exit of a `?` returns.
pub exit : {A E : Type 0} {f : E} (r : Result A E) → IsErrAnd r (λ g. g ≡ f) → r ≡ Err f
exit r h = let p = err_from_is_err_and r h in p.1 ∙ ap Err p.2

-- What `ok_or` makes of nothing, and of something.
pub missing : {A : Type 0} {g : Fault} (f : Fault) (r : CodeOption A) → ok_or r f ≡ Err g → (r ≡ None) × (g ≡ f)
missing f None e = (refl, cc)
missing f (Some x) e = absurd (let y : ◌≡◌ {A = ℕ} 0 1 = cc in omega arith)

pub present : {A : Type 0} {x : A} (f : Fault) (r : CodeOption A) → ok_or r f ≡ Ok x → r ≡ Some x
present f None e = absurd (let y : ◌≡◌ {A = ℕ} 0 1 = cc in omega arith)
present f (Some y) e = cc

-- A field that is read or written.
module _ (s facts env : List ℕ) (n : Point) (x f : ℕ) (v : Answer) (ev : Inferred s facts env (var n x) v) where
  pub select_unbound : (q : Fault) → v ≡ Err q → Inferred s facts env (select n x f) (Err q)
  select_unbound q k Γ g = rw (select_is (program_of s) Γ n x f, ← ev Γ g, k)

  pub select_found : (t f' : ℕ) (r : CodeOption ℕ) → v ≡ Ok t → f' ≡ f → r ≡ found_of (field_in (program_of s) t f')
      → Inferred s facts env (select n x f) (ok_or r (record { question = Members; node = n }))
  select_found t f' r k ef e Γ g = rw (select_is (program_of s) Γ n x f, ← ev Γ g, k, ← ef, found_or n (field_in (program_of s) t f') r e)

-- A target that is locked, where the type of Int is i.
module _ (s facts env : List ℕ) (n : Point) (x : ℕ) (v : Answer) (ev : Inferred s facts env (var n x) v) where
  pub lock_free : (q : Fault) → v ≡ Err q → Lockable s facts env n x (Err q)
  lock_free q k Γ g = rw (target_is (program_of s) Γ n x, ← ev Γ g, k)

  module _ (t i : ℕ) (k : v ≡ Ok t) (ei : i ≡ int_of (program_of s)) where
    pub lock_int : t ≡ i → Lockable s facts env n x (faulty Members n)
    lock_int h Γ g = rw (target_is (program_of s) Γ n x, ← ev Γ g, k, eq-eqb t (int_of (program_of s)) (h ∙ ei))

    pub lock_typed : (t ≡ i → ⊥) → Lockable s facts env n x (Ok t)
    lock_typed h Γ g = rw (target_is (program_of s) Γ n x, ← ev Γ g, k, ne_eqb t (int_of (program_of s)) (λ e. h (e ∙ sym ei)))

-- Two variables that are added, where the type of Int is i.
module _ (s facts env : List ℕ) (n : Point) (x y : ℕ) (v : Answer) (ev : Inferred s facts env (var n x) v) where
  pub add_left : (q : Fault) → v ≡ Err q → Inferred s facts env (add n x y) (Err q)
  add_left q k Γ g = rw (add_is (program_of s) Γ n x y, ← ev Γ g, k)

  module _ (t : ℕ) (k : v ≡ Ok t) (w : Answer) (ew : Inferred s facts env (var n y) w) where
    pub add_right : (q : Fault) → w ≡ Err q → Inferred s facts env (add n x y) (Err q)
    add_right q l Γ g = rw (add_is (program_of s) Γ n x y, ← ev Γ g, k, ← ew Γ g, l)

    pub added : (u i : ℕ) → w ≡ Ok u → i ≡ int_of (program_of s) → Inferred s facts env (add n x y) (fits (eqb t i && eqb u i) n i)
    added u i l ei Γ g = rw (add_is (program_of s) Γ n x y, ← ev Γ g, k, ← ew Γ g, l, ei)

-- what a null gives, and a node without a last part, by what is inferred for it
null_as : (p : Program) (Γ : List Slot) (n : Point) (a : Aim) → answer_as p a (null-at n) ≡ answer p Γ (null n) a
unfolding answer
null_as p Γ n infers = refl
null_as p Γ n (checks t) = refl

by_as : (p : Program) (n : Point) (a : Aim) (r : Answer) → outcome_as p a (given_by n r) ≡ aimed p n a r
by_as p n infers (Ok t) = refl
by_as p n infers (Err _) = refl
by_as p n (checks u) (Ok t) = refl
by_as p n (checks u) (Err _) = refl

plain_as : (p : Program) (Γ : List Slot) (e : Expr) (a : Aim) → is_null (last_of e) ≡ false → answer p Γ e a ≡ aimed p (point_of (last_of e)) a (inferred p Γ e)
plain_as p Γ e infers h = refl
plain_as p Γ e (checks t) h = checked_as p Γ e t h

-- The same answer, where the table is as it was.
pub same_env : (s facts : List ℕ) {env env' : List ℕ} (e : Expr) (r : Result Given Fault) → env' ≡ env → GivenAs s facts env' e r → GivenAs s facts env e r
same_env s facts e r k h Γ g = h Γ (rw k g)

pub same_table : (s facts : List ℕ) {env env' : List ℕ} (e : Expr) (r : Answer) → env' ≡ env → Inferred s facts env' e r → Inferred s facts env e r
same_table s facts e r k h Γ g = h Γ (rw k g)

-- Node n with an environment, and all that is known of the script.
pub record At (s facts env : List ℕ) (n : Point) : Type 0 where
  pub within : WithinLayout s
  pub known : Facts s facts
  pub size : length env ≡ RANKS
  pub there : n < count_of s nodes
  pub variables : List Slot
  pub environment : EnvIs s facts env variables

pub at : (code : Code) {env : List ℕ} {n : Point} → NodeInEnv code.script.bytes.now code.facts.now env n → At code.script.bytes.now code.facts.now env n
at code a =
    record {
      within = code.script.within_layout;
      known = facts_of code.facts_are;
      size = a.size;
      there = a.there;
      variables = a.variables;
      environment = a.environment;
    }

module _ {s facts env : List ℕ} {n : Point} (a : At s facts env n) where
  -- A part of the node, and what a call there asks.
  pub part : (k : Kind) (q' q : ℕ) → kind_of (node_word s n 0) ≡ k → q' ≡ q → q ∈ parts (node_as s n k) → Part s n q'
  part k q' q e eq m = rw eq (part_as s a.within n a.there k e q m)

  pub down : (q : Point) (env' : List ℕ) → Part s n q → env' ≡ env → NodeInEnv s facts env' q
  down q env' h e = record { size = rw e a.size; there = h.there; variables = a.variables; environment = rw e a.environment }

  -- The variable that the node names, and its rank.
  named_by : (k : Kind) (j : ℕ) → kind_of (node_word s n 0) ≡ k → name_in j (node_as s n k) ≡ some (node_word s n (1 + j)) → Names s n j (node_word s n (1 + j))
  named_by k j e h = record { there = a.there; name = rw (view_as s n k e) h }

  target : {j : ℕ} → Names s n j (node_word s n (1 + j)) → Target s env n j
  target h = record { size = a.size; named = h }

  pub var_target : kind_of (node_word s n 0) ≡ var_kind → Target s env n 0
  var_target e = target (named_by var_kind 0 e refl)

  pub select_target_lem : kind_of (node_word s n 0) ≡ select_kind → Target s env n 0
  select_target_lem e = target (named_by select_kind 0 e refl)

  pub update_target_lem : kind_of (node_word s n 0) ≡ update_kind → Target s env n 0
  update_target_lem e = target (named_by update_kind 0 e refl)

  pub call_target_lem : kind_of (node_word s n 0) ≡ call_kind → Target s env n 0
  call_target_lem e = target (named_by call_kind 0 e refl)

  pub lock_target_lem : kind_of (node_word s n 0) ≡ lock_kind → Target s env n 0
  lock_target_lem e = target (named_by lock_kind 0 e refl)

  pub add_targets : kind_of (node_word s n 0) ≡ add_kind → Target s env n 0 × Target s env n 1
  add_targets e = (target (named_by add_kind 0 e refl), target (named_by add_kind 1 e refl))

  pub let_rank : kind_of (node_word s n 0) ≡ bind_kind → RankOf s facts (node_word s n 1) (get_or facts (2 * n) 0)
  let_rank e = rank_first (named_by bind_kind 0 e refl)

  pub let_there : kind_of (node_word s n 0) ≡ bind_kind → get_or facts (2 * n) 0 < length env
  let_there e = rw a.size (rank_small a.known (let_rank e))

  -- The expression at the node.
  expr_here : (k : Kind) → kind_of (node_word s n 0) ≡ k → expr_at s n ≡ build n (expr_at s) (node_as s n k)
  expr_here k e = expr_as s a.within n a.there k e

  -- A variable, a read, a new object, a constant, a sum and a null.
  pub at_var : (r : Answer) → kind_of (node_word s n 0) ≡ var_kind → Inferred s facts env (var n (node_word s n 1)) r → Inferred s facts env (expr_at s n) r
  at_var r e h Γ g = rw (expr_here var_kind e) (h Γ g)

  pub at_select : (r : Answer) → kind_of (node_word s n 0) ≡ select_kind → Inferred s facts env (select n (node_word s n 1) (node_word s n 2)) r → Inferred s facts env (expr_at s n) r
  at_select r e h Γ g = rw (expr_here select_kind e) (h Γ g)

  pub at_new : (c : ℕ) → kind_of (node_word s n 0) ≡ new_kind → c ≡ node_word s n 1 → Inferred s facts env (expr_at s n) (Ok c)
  unfolding answer
  at_new c e ec Γ g = rw (expr_here new_kind e, ec)

  pub at_constant : (i : ℕ) → kind_of (node_word s n 0) ≡ constant_kind → i ≡ int_of (program_of s) → Inferred s facts env (expr_at s n) (Ok i)
  unfolding answer
  at_constant i e ei Γ g = rw (expr_here constant_kind e, ei)

  pub at_add : (r : Answer) → kind_of (node_word s n 0) ≡ add_kind → Inferred s facts env (add n (node_word s n 1) (node_word s n 2)) r → Inferred s facts env (expr_at s n) r
  at_add r e h Γ g = rw (expr_here add_kind e) (h Γ g)

  pub at_null : (k : Kind) → kind_of (node_word s n 0) ≡ k → node_as s n k ≡ node_as s n null_kind → GivenAs s facts env (expr_at s n) (Ok (null-at n))
  at_null k e h Γ g o = rw (expr_here k e, h) (null_as (program_of s) Γ n o)

  -- A node of a kind without a last part.
  pub at_plain : (k : Kind) {r : Answer} → kind_of (node_word s n 0) ≡ k → is_null (last_of (build n (expr_at s) (node_as s n k))) ≡ false → point_of (last_of (build n (expr_at s) (node_as s n k))) ≡ n
      → Inferred s facts env (expr_at s n) r → GivenAs s facts env (expr_at s n) (given_by n r)
  at_plain k {r} e h l er Γ g o =
      by_as (program_of s) n o r ∙ rw (er Γ g, expr_here k e, plain_as (program_of s) Γ (build n (expr_at s) (node_as s n k)) o h, l)

  -- A write: its field, and its value.
  module _ (e : kind_of (node_word s n 0) ≡ update_kind) (v : Answer) (ev : Inferred s facts env (select n (node_word s n 1) (node_word s n 2)) v) where
    pub update_field : (q : Fault) → v ≡ Err q → Inferred s facts env (expr_at s n) (Err q)
    update_field q k Γ g = rw (expr_here update_kind e, update_is (program_of s) Γ n (node_word s n 1) (node_word s n 2) (expr_at s (node_word s n 3)), ← ev Γ g, k)

    module _ (t b : ℕ) (r : Answer) (k : v ≡ Ok t) (eb : b ≡ node_word s n 3) (er : Checked s facts env (expr_at s b) t r) where
      updated : (Γ : List Slot) → EnvIs s facts env Γ → inferred (program_of s) Γ (expr_at s n) ≡ and_then r (λ u. Ok 0)
      updated Γ g = rw (expr_here update_kind e, update_is (program_of s) Γ n (node_word s n 1) (node_word s n 2) (expr_at s (node_word s n 3)), ← ev Γ g, k, ← eb, er Γ g)

      pub update_value : (q : Fault) → r ≡ Err q → Inferred s facts env (expr_at s n) (Err q)
      update_value q f Γ g = rw (updated Γ g, f)

      pub update_done : (u : ℕ) → r ≡ Ok u → Inferred s facts env (expr_at s n) (Ok 0)
      update_done u f Γ g = rw (updated Γ g, f)

  -- A call: its target, its method, and its argument.
  module _ (e : kind_of (node_word s n 0) ≡ call_kind) (v : Answer) (ev : Inferred s facts env (var n (node_word s n 1)) v) where
    pub call_unbound : (q : Fault) → v ≡ Err q → Inferred s facts env (expr_at s n) (Err q)
    call_unbound q k Γ g = rw (expr_here call_kind e, call_is (program_of s) Γ n (node_word s n 1) (node_word s n 2) (expr_at s (node_word s n 3)), ← ev Γ g, k)

    module _ (t m : ℕ) (z : CodeOption Types) (k : v ≡ Ok t) (em : m ≡ node_word s n 2) (ez : z ≡ member_of (method_in (program_of s) t m)) where
      pub call_missing : z ≡ None → Inferred s facts env (expr_at s n) (faulty Members n)
      call_missing f Γ g =
          rw (expr_here call_kind e, call_is (program_of s) Γ n (node_word s n 1) (node_word s n 2) (expr_at s (node_word s n 3)), ← ev Γ g, k, ← em, member_none n (method_in (program_of s) t m) z _ ez f)

      module _ (types : Types) (b : ℕ) (r : Answer) (f : z ≡ Some types) (eb : b ≡ node_word s n 3) (er : Checked s facts env (expr_at s b) types.param r) where
        called : (Γ : List Slot) → EnvIs s facts env Γ → inferred (program_of s) Γ (expr_at s n) ≡ and_then r (λ u. Ok types.result)
        called Γ g =
            rw
            (expr_here call_kind e, call_is (program_of s) Γ n (node_word s n 1) (node_word s n 2) (expr_at s (node_word s n 3)), ← ev Γ g, k, ← em, ← eb, er Γ g)
            (member_some n (method_in (program_of s) t m) z types (λ x y. and_then (checked (program_of s) Γ (expr_at s b) x) (λ u. Ok y)) ez f)

        pub call_argument : (q : Fault) → r ≡ Err q → Inferred s facts env (expr_at s n) (Err q)
        call_argument q y Γ g = rw (called Γ g, y)

        pub call_done : (u : ℕ) → r ≡ Ok u → Inferred s facts env (expr_at s n) (Ok types.result)
        call_done u y Γ g = rw (called Γ g, y)

  -- A let: its value, whose type fits a word with 1 more, and its body, under one more variable.
  module _ (b : ℕ) (r : Answer) (e : kind_of (node_word s n 0) ≡ bind_kind) (eb : b ≡ node_word s n 2) (er : Inferred s facts env (expr_at s b) r) where
    pub let_first : (q : Fault) → r ≡ Err q → GivenAs s facts env (expr_at s n) (Err q)
    unfolding answer
    let_first q k Γ g o = rw (expr_here bind_kind e, ← eb, ← er Γ g, k)

    module _ (t : ℕ) (k : r ≡ Ok t) where
      let_body : (Γ : List Slot) → EnvIs s facts env Γ → (o : Aim)
          → answer (program_of s) Γ (expr_at s n) o ≡ answer (program_of s) (record { name = node_word s n 1; type = t } ∷ Γ) (expr_at s (node_word s n 3)) o
      unfolding answer
      let_body Γ g o = rw (expr_here bind_kind e, ← eb, ← er Γ g, k)

      value_type : (Γ : List Slot) → EnvIs s facts env Γ → IsType (program_of s) t
      value_type Γ g = inferred_type a.within b (part bind_kind b (node_word s n 2) e eb first).there facts env Γ g t (sym (er Γ g) ∙ k)

      pub let_small : t ≤ INTERFACES + CLASSES + 1
      let_small = type_small a.within t (value_type a.variables a.environment)

      bound_let : (Γ : List Slot) → EnvIs s facts env Γ → EnvIs s facts (set env (get_or facts (2 * n) 0) (t + 1)) (record { name = node_word s n 1; type = t } ∷ Γ)
      bound_let Γ g = env_bind g (node_word s n 1) (get_or facts (2 * n) 0) t a.known (let_rank e) (let_there e) (value_type Γ g)

      module _ (env₁ : List ℕ) (e₁ : env₁ ≡ env) where
        pub let_under : (c : Point) → Part s n c → NodeInEnv s facts (set env₁ (get_or facts (2 * n) 0) (t + 1)) c
        let_under c h =
            record {
              size = rw (length-set env₁ (get_or facts (2 * n) 0) (t + 1), e₁) a.size;
              there = h.there;
              variables = record { name = node_word s n 1; type = t } ∷ a.variables;
              environment = rw e₁ (bound_let a.variables a.environment);
            }

        pub let_last : (c : Point) (v : Result Given Fault) → c ≡ node_word s n 3 → GivenAs s facts (set env₁ (get_or facts (2 * n) 0) (t + 1)) (expr_at s c) v → GivenAs s facts env (expr_at s n) v
        let_last c v ec ev Γ g o = rw (let_body Γ g o, ← ec) (ev (record { name = node_word s n 1; type = t } ∷ Γ) (rw e₁ (bound_let Γ g)) o)

  -- A cast is its operand, checked.
  pub at_cast : (t b : ℕ) (r : Answer) → kind_of (node_word s n 0) ≡ cast_kind → t ≡ node_word s n 1 → b ≡ node_word s n 2 → Checked s facts env (expr_at s b) t r → Inferred s facts env (expr_at s n) r
  unfolding answer
  at_cast t b r e et eb er Γ g = rw (expr_here cast_kind e, ← et, ← eb) (er Γ g)

  -- A fork: the flag of its node, and its three parts.
  module _ (e : kind_of (node_word s n 0) ≡ fork_kind) where
    flag : get_or facts (2 * n) 0 ≡ flag_of (shares (fv (expr_at s (node_word s n 1))) (fv (expr_at s (node_word s n 2))))
    flag = a.known.forks.flags n (node_word s n 1) (node_word s n 2) (node_word s n 3) a.there (view_as s n fork_kind e)

    pub fork_shared : get_or facts (2 * n) 0 ≡ 1 → GivenAs s facts env (expr_at s n) (Err (record { question = Sharing; node = n }))
    unfolding answer
    fork_shared k Γ g o = rw (expr_here fork_kind e) (shared_is n (shares (fv (expr_at s (node_word s n 1))) (fv (expr_at s (node_word s n 2)))) _ (sym flag ∙ k))

    module _ (k : get_or facts (2 * n) 0 ≡ 1 → ⊥) (b : ℕ) (r : Answer) (eb : b ≡ node_word s n 1) (er : Inferred s facts env (expr_at s b) r) where
      forked : (Γ : List Slot) → EnvIs s facts env Γ → (o : Aim)
          → answer (program_of s) Γ (expr_at s n) o ≡ and_then r (λ t. and_then (inferred (program_of s) Γ (expr_at s (node_word s n 2))) (λ u. answer (program_of s) Γ (expr_at s (node_word s n 3)) o))
      unfolding answer
      forked Γ g o = rw (expr_here fork_kind e, er Γ g, eb) (apart_is n (shares (fv (expr_at s (node_word s n 1))) (fv (expr_at s (node_word s n 2)))) _ (λ z. k (flag ∙ z)))

      pub fork_left : (q : Fault) → r ≡ Err q → GivenAs s facts env (expr_at s n) (Err q)
      fork_left q h Γ g o = rw (forked Γ g o, h)

      module _ (t : ℕ) (ft : r ≡ Ok t) (c : ℕ) (v : Answer) (ec : c ≡ node_word s n 2) (ev : Inferred s facts env (expr_at s c) v) where
        pub fork_right : (q : Fault) → v ≡ Err q → GivenAs s facts env (expr_at s n) (Err q)
        fork_right q z Γ g o = rw (forked Γ g o, ft, ← ec, ← ev Γ g, z)

        pub fork_last : (u d : ℕ) (w : Result Given Fault) → v ≡ Ok u → d ≡ node_word s n 3 → GivenAs s facts env (expr_at s d) w → GivenAs s facts env (expr_at s n) w
        fork_last u d w z ed ew Γ g o = rw (forked Γ g o, ft, ← ec, ← ev Γ g, z, ← ed) (ew Γ g o)

  -- A lock: its target, and its part.
  module _ (e : kind_of (node_word s n 0) ≡ lock_kind) (v : Answer) (ev : Lockable s facts env n (node_word s n 1) v) where
    pub lock_unbound : (q : Fault) → v ≡ Err q → GivenAs s facts env (expr_at s n) (Err q)
    lock_unbound q k Γ g o = rw (expr_here lock_kind e, lock_is (program_of s) Γ n (node_word s n 1) (expr_at s (node_word s n 2)) o, ← ev Γ g, k)

    pub lock_part : (t b : ℕ) (r : Result Given Fault) → v ≡ Ok t → b ≡ node_word s n 2 → GivenAs s facts env (expr_at s b) r → GivenAs s facts env (expr_at s n) r
    lock_part t b r k eb er Γ g o = rw (expr_here lock_kind e, lock_is (program_of s) Γ n (node_word s n 1) (expr_at s (node_word s n 2)) o, ← ev Γ g, k, ← eb) (er Γ g o)

-- What is answered by what a node gives, where it is inferred and where it is checked.
module _ {s facts env : List ℕ} (e : Expr) (r : Result Given Fault) (er : GivenAs s facts env e r) where
  pub given_fault : (f : Fault) → r ≡ Err f → Inferred s facts env e (Err f) × ((t : ℕ) → Checked s facts env e t (Err f))
  given_fault f k = (λ Γ g. (rw k at (er Γ g infers)), λ t Γ g. (rw k at (er Γ g (checks t))))

  pub given_inferred : {a : Answer} → a ≡ inferred_as r → Inferred s facts env e a
  given_inferred f Γ g = f ∙ outcome_inferred r ∙ er Γ g infers
    where
      outcome_inferred : (x : Result Given Fault) → inferred_as x ≡ outcome_as (program_of s) infers x
      outcome_inferred (Ok v) = refl
      outcome_inferred (Err q) = refl

  pub given_checked : (v : Given) (t : ℕ) {a : Answer} → r ≡ Ok v → a ≡ answer_as (program_of s) (checks t) v → Checked s facts env e t a
  given_checked v t k f Γ g = f ∙ (rw k at (er Γ g (checks t)))
