-- What a waiting node waits for, as the code goes: one law for each answer.
use mathlib.Core.Path.{◌≡◌, refl, sym, ap, ◌∙◌}
use mathlib.Core.Bool.{Bool, true, false, ◌||◌}
use mathlib.Core.List.{List, ◌∷◌}
use mathlib.Core.Option.{Option, none, some}
use Prim.Native.Nat.{ℕ, ◌<◌}
use native.Mathlib.Omega.{arith}
use Rattle.script.specs.declared.Section.TheVariants.{Nodes as nodes}
use Rattle.std.specs.declared.option.Option.{Option as CodeOption}
use Rattle.std.specs.declared.option.Option.TheVariants.{Some, None}
use Rattle.script.specs.declared.Kind.{Kind}
use Rattle.script.specs.declared.Kind.TheVariants as kinds
use Rattle.script.specs.declared.Kind.TheVariants.{Update as update_kind, Call as call_kind, Let as bind_kind}
use Rattle.script.specs.Section.{count_of, node_word}
use Rattle.script.specs.Statements.{WithinLayout}
use Rattle.script.specs.Syntax.{Point, Expr, Slot, Signature, Program}
use Rattle.script.specs.Reading.{kind_of, node_of, view_at, expr_at, program_of}
use Rattle.script.proofs.Reading.{first, view_as, expr_as, part_as}
use Rattle.script.proofs.Regular.{formed, regular}
use Rattle.script.proofs.Tests.{yes_said}
use Rattle.sections.specs.Laid.{found_of}
use Rattle.typing.specs.declared.Aim.{Aim}
use Rattle.typing.specs.declared.Aim.TheVariants.{Infers as infers, Checks as checks}
use Rattle.std.specs.declared.result.Result.{Result}
use Rattle.std.specs.declared.result.Result.TheVariants.{Ok, Err}
use Rattle.std.specs.Result.{result_ok}
use Rattle.typing.specs.declared.Fault.{Fault}
use Rattle.typing.specs.Answers.{Answer}
use Rattle.members.specs.declared.Types.{Types}
use Rattle.typing.specs.Members.{below, type_in, field_in, method_in}
use Rattle.typing.specs.Typing.{and_then, fits, null_test, answer, inferred}
use Rattle.typing.proofs.Int.{null_fits_exactly}
use Rattle.typing.proofs.Rules.{infer_type, inferred_typed}
use Rattle.members.specs.Lookup.{member_of}
use Rattle.members.proofs.LookupLaws.{found_at, found_nothing}
use Rattle.inference.specs.declared.Given.{Given}
use Rattle.inference.specs.declared.Given.TheVariants.{Typed as typed_at, Null as null-at}
use Rattle.inference.specs.Given.{answer_as, outcome_as, GivenIn}
use Rattle.inference.proofs.InferLaws.{type_small}
use Rattle.machine.specs.Config.{Code, code_of}
use Rattle.machine.specs.Machine.{context}
use Rattle.machine.specs.declared.Want.{Want}
use Rattle.machine.specs.declared.Want.TheVariants.{Any as any, Upto as upto}
use Rattle.machine.specs.Decide.{given, if_typed, only, meets_test, null_meets_test, is_typed, gives_test, wants, awaited}
use Rattle.machine.proofs.Types.{null_unit}
use Rattle.environments.specs.Chains.{bindings_in}
use Rattle.environments.specs.Known.{ScopedNode, Inferable}
use Rattle.awaited.specs.declared.Waits.{Waits}
use Rattle.awaited.specs.declared.Waits.TheVariants.{For, ForNull}
use Rattle.awaited.specs.Awaited.{expects_of, wants_of, given_test, waits_by, GivesSmall, WaitsAs}

method_missed : {A : Type 0} (o : Option Signature) (r : CodeOption Types) (k : Signature → Option A) → r ≡ member_of o → r ≡ None → given o k ≡ none
method_missed none r k e f = refl
method_missed (some g) r k e f = absurd (let z : ◌≡◌ {A = ℕ} 0 1 = cc in omega arith)

method_found : {A : Type 0} (o : Option Signature) (r : CodeOption Types) (m : Types) (k : ℕ → ℕ → Option A) → r ≡ member_of o → r ≡ Some m → given o (λ g. k g.param g.result) ≡ k m.param m.result
method_found none r m k e f = absurd (let z : ◌≡◌ {A = ℕ} 0 1 = cc in omega arith)
method_found (some g) r m k e f =
    let z : record { param = g.param; result = g.result } ≡ m = some_same (sym e ∙ f) in
    ap (λ (x : Types). k x.param x.result) z
  where
    some_same : {x y : Types} → Some x ≡ Some y → x ≡ y
    some_same h = cc

-- the test, by what an expression gives
fits_typed : (q : Bool) (n t : ℕ) → is_typed (fits q n t) ≡ q
fits_typed true n t = refl
fits_typed false n t = refl

-- null fits Unit, so the test says
unit_test : (p : Program) → null_test p 0 ≡ true
unit_test p = yes_said (null_fits_exactly p 0) (null_unit p)

given_any : (c : Code) (r : Result Given Fault) → is_typed (outcome_as c.program infers r) || is_typed (outcome_as c.program (checks 0) r) ≡ given_test c r any
given_any c (Ok (typed_at t n)) = refl
given_any c (Ok (null-at n)) = fits_typed (null_test c.program 0) n 0 ∙ unit_test c.program
given_any c (Err f) = refl

given_upto : (c : Code) (r : Result Given Fault) (t : ℕ) → is_typed (outcome_as c.program (checks t) r) ≡ given_test c r (upto t)
given_upto c (Ok (typed_at u n)) t = fits_typed (below c.program u t) n t
given_upto c (Ok (null-at n)) t = fits_typed (null_test c.program t) n t
given_upto c (Err f) t = refl

pub gives_by : (c : Code) (Γ : List Slot) (e : Expr) (r : Result Given Fault) → GivenIn c.program Γ e r → (v : Want) → gives_test c Γ e v ≡ given_test c r v
gives_by c Γ e r h any = rw (← h infers, ← h (checks 0)) (given_any c r)
gives_by c Γ e r h (upto t) = rw (← h (checks t)) (given_upto c r t)

-- what a let waits for, by what its last part gives
waits_only : (c : Code) (t : ℕ) (g : Given) (v : Want) → only (given_test c (Ok g) v) (some (upto t)) ≡ wants_of c v (Some (waits_by t g))
waits_only c t (typed_at u n) v = refl
waits_only c t (null-at n) v = refl

-- what gives a type or a null gets no no
gives_something : (p : Program) (g : Given) (f : Fault) → ((o : Aim) → answer_as p o g ≡ Err f) → ⊥
gives_something p (typed_at t n) f h = let k = h infers in let z : ◌≡◌ {A = ℕ} 0 1 = cc in omega arith
gives_something p (null-at n) f h = let k = rw (unit_test p) at (h (checks 0)) in let z : ◌≡◌ {A = ℕ} 0 1 = cc in omega arith

module _ {s b : List ℕ} {n : Point} {e : ℕ} (within : WithinLayout s) (a : ScopedNode s b e n) where
  -- a write and a call, by the type of the target
  module _ (x : ℕ) (ex : x ≡ node_word s n 1) (v : CodeOption ℕ) (ev : v ≡ found_of (type_in (context (bindings_in b) e) x)) where
    module _ (k : kind_of (node_word s n 0) ≡ update_kind) where
      write_is : (w : Want)
          → awaited (code_of s) (context (bindings_in b) e) (view_at s n) w
          ≡ given (type_in (context (bindings_in b) e) x) (λ c. given (field_in (program_of s) c (node_word s n 2)) (λ t. wants (code_of s) 0 w t))
      unfolding kind_of
      write_is w = rw (view_as s n update_kind k, ex)

      pub write_unbound : v ≡ None → WaitsAs s b n e None
      write_unbound m w = rw (write_is w, found_nothing (type_in (context (bindings_in b) e) x) v ev m)

      module _ (c : ℕ) (fv : v ≡ Some c) (f : ℕ) (ef : f ≡ node_word s n 2) (r : CodeOption ℕ) (er : r ≡ found_of (field_in (program_of s) c f)) where
        pub write_missing : r ≡ None → WaitsAs s b n e None
        write_missing m w =
            rw (write_is w, found_at (type_in (context (bindings_in b) e) x) v ev c fv, ← ef, found_nothing (field_in (program_of s) c f) r er m)

        pub write_waits : (t : ℕ) → r ≡ Some t → WaitsAs s b n e (Some (For t 0))
        write_waits t m w =
            rw (write_is w, found_at (type_in (context (bindings_in b) e) x) v ev c fv, ← ef, found_at (field_in (program_of s) c f) r er t m)

    module _ (k : kind_of (node_word s n 0) ≡ call_kind) where
      call_is : (w : Want)
          → awaited (code_of s) (context (bindings_in b) e) (view_at s n) w
          ≡ given (type_in (context (bindings_in b) e) x) (λ c. given (method_in (program_of s) c (node_word s n 2)) (λ g. wants (code_of s) g.result w g.param))
      unfolding kind_of
      call_is w = rw (view_as s n call_kind k, ex)

      pub call_unbound : v ≡ None → WaitsAs s b n e None
      call_unbound m w = rw (call_is w, found_nothing (type_in (context (bindings_in b) e) x) v ev m)

      module _ (c : ℕ) (fv : v ≡ Some c) (m : ℕ) (em : m ≡ node_word s n 2) (r : CodeOption Types) (er : r ≡ member_of (method_in (program_of s) c m)) where
        pub call_missing : r ≡ None → WaitsAs s b n e None
        call_missing f w =
            rw (
              call_is w,
              found_at (type_in (context (bindings_in b) e) x) v ev c fv,
              ← em,
              method_missed (method_in (program_of s) c m) r (λ h. wants (code_of s) h.result w h.param) er f,
            )

        pub call_waits : (t : Types) → r ≡ Some t → WaitsAs s b n e (Some (For t.param t.result))
        call_waits t f w =
            rw (
              call_is w,
              found_at (type_in (context (bindings_in b) e) x) v ev c fv,
              ← em,
              method_found (method_in (program_of s) c m) r t (λ y q. wants (code_of s) q w y) er f,
            )

  -- a let, by the types of the whole and of its first part
  module _ (k : kind_of (node_word s n 0) ≡ bind_kind) where
    awaited_is : (w : Want)
        → awaited (code_of s) (context (bindings_in b) e) (view_at s n) w
        ≡ if_typed (inferred (program_of s) (context (bindings_in b) e) (expr_at s (node_word s n 2)))
        (λ t. only (gives_test (code_of s) (record { name = node_word s n 1; type = t } ∷ context (bindings_in b) e) (expr_at s (node_word s n 3)) w) (some (upto t)))
    unfolding kind_of
    awaited_is w = rw (view_as s n bind_kind k)

    answer_is : (o : Aim) → answer (program_of s) (context (bindings_in b) e) (expr_at s n) o
        ≡ and_then (inferred (program_of s) (context (bindings_in b) e) (expr_at s (node_word s n 2)))
        (λ t. answer (program_of s) (record { name = node_word s n 1; type = t } ∷ context (bindings_in b) e) (expr_at s (node_word s n 3)) o)
    unfolding kind_of answer
    answer_is o = rw (expr_as s within n a.there bind_kind k)

    pub first_there : {q : Point} → q ≡ node_word s n 2 → q < count_of s nodes
    unfolding kind_of
    first_there eq = rw eq (part_as s within n a.there bind_kind k (node_word s n 2) first).there

    module _ (r : Result Given Fault) (er : GivenIn (program_of s) (context (bindings_in b) e) (expr_at s n) r) where
      last_gives : (t : ℕ) → inferred (program_of s) (context (bindings_in b) e) (expr_at s (node_word s n 2)) ≡ Ok t
          → GivenIn (program_of s) (record { name = node_word s n 1; type = t } ∷ context (bindings_in b) e) (expr_at s (node_word s n 3)) r
      last_gives t d o = er o ∙ answer_is o ∙ rw d

      last_test : (t : ℕ) → inferred (program_of s) (context (bindings_in b) e) (expr_at s (node_word s n 2)) ≡ Ok t → (w : Want)
          → gives_test (code_of s) (record { name = node_word s n 1; type = t } ∷ context (bindings_in b) e) (expr_at s (node_word s n 3)) w ≡ given_test (code_of s) r w
      last_test t d w = gives_by (code_of s) (record { name = node_word s n 1; type = t } ∷ context (bindings_in b) e) (expr_at s (node_word s n 3)) r (last_gives t d) w

      pub let_faulty : (f : Fault) → r ≡ Err f → WaitsAs s b n e None
      let_faulty f h w = awaited_is w ∙ go (inferred (program_of s) (context (bindings_in b) e) (expr_at s (node_word s n 2))) refl
        where
          go : (o : Answer) → inferred (program_of s) (context (bindings_in b) e) (expr_at s (node_word s n 2)) ≡ o
              → if_typed o (λ t. only (gives_test (code_of s) (record { name = node_word s n 1; type = t } ∷ context (bindings_in b) e) (expr_at s (node_word s n 3)) w) (some (upto t))) ≡ none
          go (Ok t) d = rw (last_test t d w, h)
          go (Err _) d = refl

      module _ (g : Given) (eg : r ≡ Ok g) where
        outcome : (o : Aim) → answer_as (program_of s) o g ≡ answer (program_of s) (context (bindings_in b) e) (expr_at s n) o
        outcome o = rw eg at (er o)

        pub first_inferable : (q : Point) → q ≡ node_word s n 2 → Inferable s b e q
        first_inferable q eq = go (inferred (program_of s) (context (bindings_in b) e) (expr_at s (node_word s n 2))) refl
          where
            go : (o : Answer) → inferred (program_of s) (context (bindings_in b) e) (expr_at s (node_word s n 2)) ≡ o → Inferable s b e q
            go (Ok t) d = record { type = t; is = rw eq d }
            go (Err f) d = absurd (gives_something (program_of s) g f (λ o. outcome o ∙ answer_is o ∙ rw d))

        module _ (q : Point) (eq : q ≡ node_word s n 2) (o : Answer) (eo : o ≡ inferred (program_of s) (context (bindings_in b) e) (expr_at s q)) where
          pub first_faulty : (f : Fault) → o ≡ Err f → WaitsAs s b n e None
          first_faulty f d w = rw (awaited_is w, ← eq, ← eo, d)

          pub let_waits : (t : ℕ) → o ≡ Ok t → (w : Waits) → w ≡ waits_by t g → WaitsAs s b n e (Some w)
          let_waits t d v ev w = rw ev (awaited_is w ∙ rw (← eq, ← eo, d, last_test t (rw (← eq) (sym eo ∙ d)) w, eg) (waits_only (code_of s) t g w))

        pub let_small : (t : ℕ) (v : Waits) → v ≡ waits_by t g → GivesSmall (Some v)
        let_small t v ev = rw ev (go g outcome)
          where
            go : (g : Given) → ((o : Aim) → answer_as (program_of s) o g ≡ answer (program_of s) (context (bindings_in b) e) (expr_at s n) o) → GivesSmall (Some (waits_by t g))
            go (typed_at v m) h y u f =
                let same : v ≡ u = cc in
                let i = inferred_typed (program_of s) (regular s within) (context (bindings_in b) e) (expr_at s n) v a.types (formed s within n a.there) (sym (h infers)) in
                rw (← same) (type_small within v (infer_type (program_of s) (regular s within) i))
            go (null-at m) h y u f = absurd (let z : ◌≡◌ {A = ℕ} 0 1 = cc in omega arith)

-- nothing is given where nothing is waited for
pub never_small : GivesSmall None
never_small t u f = absurd (let z : ◌≡◌ {A = ℕ} 0 1 = cc in omega arith)

-- what is expected, by whether what is given meets
pub for_type : (s : List ℕ) (w : Waits) (v : Want) (t u : ℕ) → w ≡ For t u → wants_of (code_of s) v (Some w) ≡ only (meets_test (code_of s) u v) (some (upto t))
for_type s w v t u f = rw f

pub for_null : (s : List ℕ) (w : Waits) (v : Want) (t : ℕ) → w ≡ ForNull t → wants_of (code_of s) v (Some w) ≡ only (null_meets_test (code_of s) v) (some (upto t))
for_null s w v t f = rw f

module _ {o : Option Want} (t : ℕ) {m : Bool} (q : Bool) (f : o ≡ only q (some (upto t))) (e : m ≡ q) where
  pub expected_not : m ≡ false → None ≡ expects_of o
  expected_not h = rw (f, ← e, h)

  pub expected_so : m ≡ true → Some (upto t) ≡ expects_of o
  expected_so h = rw (f, ← e, h)

-- any other node waits for nothing
other : (s : Code) (Γ : List Slot) (v : Want) (k : Kind) (a b c : ℕ) → (k ≡ update_kind → ⊥) → (k ≡ call_kind → ⊥) → (k ≡ bind_kind → ⊥) → awaited s Γ (node_of k a b c) v ≡ none
other s Γ v kinds.Null a b c h i j = refl
other s Γ v kinds.Variable a b c h i j = refl
other s Γ v kinds.Select a b c h i j = refl
other s Γ v kinds.Update a b c h i j = absurd (h refl)
other s Γ v kinds.Call a b c h i j = absurd (i refl)
other s Γ v kinds.Let a b c h i j = absurd (j refl)
other s Γ v kinds.New a b c h i j = refl
other s Γ v kinds.Cast a b c h i j = refl
other s Γ v kinds.Fork a b c h i j = refl
other s Γ v kinds.Lock a b c h i j = refl
other s Γ v kinds.Constant a b c h i j = refl
other s Γ v kinds.Sum a b c h i j = refl
other s Γ v kinds.Unknown a b c h i j = refl

pub waits_never : (s b : List ℕ) (n : Point) (e : ℕ) (k : Kind) → k ≡ kind_of (node_word s n 0) → (k ≡ update_kind → ⊥) → (k ≡ call_kind → ⊥) → (k ≡ bind_kind → ⊥) → WaitsAs s b n e None
waits_never s b n e k ek h i j v =
    rw (view_as s n k (sym ek), other (code_of s) (context (bindings_in b) e) v k (node_word s n 1) (node_word s n 2) (node_word s n 3) h i j)

-- what `ok` says of a Result
pub was_ok : {A E : Type 0} (r : Result A E) (o : CodeOption A) (x : A) → o ≡ result_ok r → o ≡ Some x → r ≡ Ok x
was_ok (Ok y) o x e h = let z : Some y ≡ Some x = sym e ∙ h in let q : y ≡ x = cc in ap Ok q
was_ok (Err f) o x e h = absurd (let z : None ≡ Some x = sym e ∙ h in let q : ◌≡◌ {A = ℕ} 0 1 = cc in omega arith)

pub was_err : {A E : Type 0} (r : Result A E) (o : CodeOption A) → o ≡ result_ok r → o ≡ None → (f : E) × (r ≡ Err f)
was_err (Ok y) o e h = absurd (let z : Some y ≡ None = sym e ∙ h in let q : ◌≡◌ {A = ℕ} 0 1 = cc in omega arith)
was_err (Err f) o e h = (f, refl)
