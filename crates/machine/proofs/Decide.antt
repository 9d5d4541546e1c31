-- `well_formed_test` decides whether a configuration is well formed.
use Prim.Native.Nat.{ℕ, zero, suc, ◌+◌, ◌≤◌, ◌<◌}
use native.Mathlib.Omega.{arith}
use native.Mathlib.Decide.{dec_lt, ℕ_discrete}
use mathlib.Core.Path.{◌≡◌, refl, sym}
use mathlib.Core.Bool.{Bool, true, false, cond, ◌&&◌, ◌||◌, and_assoc}
use mathlib.Core.List.Memᴰ
use mathlib.Core.List.{List, [], ◌∷◌, map}
use mathlib.Core.Logic.{◌⊎◌, inl, inr, ⊎_elim}
use mathlib.Core.Option.{Option, none, some, none-ne-some}
use lib.Dec.{eqb, leb, ltb}
use lib.ListN.{length}
use lib.IntN.{ℤ}
use lib.Signed.{mag}
use borrow.Author.Tests.{leb-true, le-leb, ltb-true, lt-ltb}
use Rattle.words.specs.Integer.{HALF, InRange}
use Rattle.script.specs.Lists.{◌∈◌}
use Rattle.script.specs.Asking.{Decides, holds, fails}
use Rattle.script.specs.Questions.{all_of}
use Rattle.script.specs.Syntax.{Point, Node, n_null, n_var, n_select, n_update, n_call, n_bind, n_new, n_cast, n_fork, n_lock, n_constant, n_add, Expr, cast, is_null, parts, Slot, Signature, int_of}
use Rattle.script.specs.Regular.{IsType, IsClass, Formed}
use Rattle.script.proofs.Tests.{says_yes, yes_said, decides_as, decides_and, decides_or, decides_not, decides_eq, decides_le, decides_lt, decides_all}
use Rattle.script.proofs.Reading.{first, second}
use Rattle.typing.specs.declared.Aim.TheVariants.{Infers as infers, Checks as checks}
use Rattle.std.specs.declared.result.Result.TheVariants.{Ok, Err}
use Rattle.typing.specs.Answers.{Answer}
use Rattle.typing.specs.Environments.{TypeOf}
use Rattle.typing.specs.Members.{type_in, field_in, method_in, fields_of}
use Rattle.typing.specs.Typing.{inferred, checked}
use Rattle.typing.specs.Published.{WfType, T-WF-UNIT, Sub, WfEnv, WF-ENV, MsigIn, NullFits, Infer, Check}
use Rattle.typing.specs.Refusals.{last_of}
use Rattle.typing.proofs.Environments.{type_in_lem, typed_exactly}
use Rattle.typing.proofs.Types.{type_wf}
use Rattle.typing.proofs.Subtype.{decides_below}
use Rattle.typing.proofs.Int.{null_fits_exactly}
use Rattle.typing.proofs.Members.{field_in_lem, field_type, method_in_lem, method_only, signature_types}
use Rattle.typing.proofs.NullEnds.{plain_infers, null_ends}
use Rattle.typing.proofs.Rules.{infer_type, Judged, types, passes, refuses, judged, inferred_typed}
use Rattle.machine.specs.declared.Value.{Value}
use Rattle.machine.specs.declared.Value.TheVariants.{Null as nil, Ref as ref, Int as int}
use Rattle.machine.specs.declared.Frame.{Frame}
use Rattle.machine.specs.declared.Frame.TheVariants.{Awaits as awaits, Casts as casts, Locks as locks}
use Rattle.machine.specs.Config.{Code, Object, Binding, Stores, Tree, running, returning, failed, join, Config}
use Rattle.machine.specs.Machine.{scope, slot, context, object, Places}
use Rattle.machine.specs.declared.Want.{Want}
use Rattle.machine.specs.declared.Want.TheVariants.{Any as any, Upto as upto}
use Rattle.machine.specs.WellFormed.{Meets, meets_any, meets_type, NullMeets, null_any, null_type, ValueFits, fits_nil, fits_ref, fits_int, Gives, gives_type, NodeGives, BindingOk, BindingsOk, no_bindings, a_binding, FieldsOk, no_fields, a_field, TypedObject, StoresOk, Awaits, a_let, a_write, a_call, FramesOk, no_frames, a_node, a_cast, a_lock, TreeOk, running_ok, returning_ok, failed_ok, join_ok, lock_count, failures, shut_at, Within, WellFormed}
use Rattle.machine.specs.Accepted.{LaterPart, AcceptedCode}
use Rattle.machine.specs.Decide.{given, if_typed, only, meets_test, object_test, null_meets_test, value_fits_test, is_typed, gives_test, at_test, is_class_test, fields_test, binding_test, bindings_test, stores_test, awaited, cast_type, expects, want_test, tree_test, lock_list, distinct_test, numbers_below, covered_test, within_limits_test, well_formed_test}
use Rattle.machine.proofs.Types.{null_unit, check_gives, infer_computes, check_computes, env_next, gives_checks, gives_some, rules_function, start_type}
use Rattle.machine.proofs.Locks.{lock_listed}

-- a second test that decides where the first passes
decides_then : {P Q : Type 0} {a b : Bool} → Decides P a → (P → Decides Q b) → Decides (P × Q) (a && b)
decides_then (holds p) d = go p (d p)
  where
    go : {P Q : Type 0} {b : Bool} → P → Decides Q b → Decides (P × Q) b
    go p (holds q) = holds (p, q)
    go p (fails n) = fails (λ h. n h.1)
decides_then (fails n) d = fails (λ h. n h.0)

-- what an answer says of its parts
given_some : {A B : Type 0} (o : Option A) (f : A → Option B) (b : B) → given o f ≡ some b → (a : A) × (o ≡ some a) × (f a ≡ some b)
given_some none f b h = absurd (none-ne-some _ h)
given_some (some a) f b h = (a, refl, h)

typed_some : {B : Type 0} (o : Answer) (f : ℕ → Option B) (b : B) → if_typed o f ≡ some b → (t : ℕ) × (o ≡ Ok t) × (f t ≡ some b)
typed_some (Ok t) f b h = (t, refl, h)
typed_some (Err _) f b h = absurd (none-ne-some _ h)

only_some : {A : Type 0} (q : Bool) (o : Option A) (a : A) → only q o ≡ some a → (q ≡ true) × (o ≡ some a)
only_some true o a h = (refl, h)
only_some false o a h = absurd (none-ne-some _ h)

some_same : {A : Type 0} (a b : A) → ◌≡◌ {A = Option A} (some a) (some b) → a ≡ b
some_same a b h = cc

-- every object of a list
decides_every : (P : Object → Type 0) (test : Object → Bool) (xs : List Object) → ((x : Object) → Decides (P x) (test x)) → Decides ((o : ℕ) (x : Object) → object xs o ≡ some x → P x) (all_of test xs)
unfolding all_of
decides_every P test [] d = holds (λ o x e. absurd (none-ne-some _ e))
decides_every P test (y ∷ xs) d = decides_as both each (decides_and (d y) (decides_every P test xs d))
  where
    both : P y × ((o : ℕ) (x : Object) → object xs o ≡ some x → P x) → (o : ℕ) (x : Object) → object (y ∷ xs) o ≡ some x → P x
    both h zero x e = let q : y ≡ x = cc in rw q at h.0
    both h (suc o) x e = h.1 o x e

    each : ((o : ℕ) (x : Object) → object (y ∷ xs) o ≡ some x → P x) → P y × ((o : ℕ) (x : Object) → object xs o ≡ some x → P x)
    each h = (h zero y refl, λ o x e. h (suc o) x e)

abbrev Classes : Code → List Object → Type 0
Classes s xs = (o : ℕ) (x : Object) → object xs o ≡ some x → IsClass s.program x.class

decides_class : (s : Code) (x : Object) → Decides (IsClass s.program x.class) (is_class_test s x)
decides_class s x =
    decides_as (λ h. record { past = h.0; last = h.1 }) (λ i. (i.past, i.last)) (decides_and (decides_lt (length s.program.interfaces) x.class) (decides_le x.class (length s.program.interfaces + length s.program.classes)))

-- the environment of a place is well formed
cond_types : {s : Code} {xs : List Object} {bs : List Binding} → BindingsOk s xs bs → (e : ℕ) (b : Slot) → b ∈ context bs e → WfType s.program b.type
cond_types no_bindings e b m = absurd (Memᴰ.not-nil m)
cond_types {s} (a_binding {b = c} {bs = bs} h ok) e b m = go (eqb e (suc (length bs))) m (cond_types ok c.link b) (cond_types ok e b)
  where
    go : (q : Bool) → b ∈ map slot (cond q (c ∷ scope bs c.link) (scope bs e)) → (b ∈ context bs c.link → WfType s.program b.type) → (b ∈ context bs e → WfType s.program b.type)
        → WfType s.program b.type
    go true m f g = ⊎_elim (λ (q : b ≡ slot c). rw q ((type_wf s.program c.type).0 h.type)) f (Memᴰ.cases_cons m)
    go false m f g = g m

pub context_wf : {s : Code} {xs : List Object} {bs : List Binding} → BindingsOk s xs bs → (e : ℕ) → WfEnv s.program (context bs e)
context_wf ok e = WF-ENV (cond_types ok e)

meets_sub : {s : Code} {t u : ℕ} → Meets s t (upto u) → Sub s.program t u
meets_sub (meets_type b) = b

fits_object : {s : Code} {xs : List Object} {o : ℕ} {w : Want} → ValueFits s xs (ref o) w → (x : Object) × (object xs o ≡ some x) × Meets s x.class w
fits_object (fits_ref {x = x} h m) = (x, h, m)

fits_null : {s : Code} {xs : List Object} {w : Want} → ValueFits s xs nil w → NullMeets s w
fits_null (fits_nil m) = m

fits_number : {s : Code} {xs : List Object} {z : ℤ} {w : Want} → ValueFits s xs (int z) w → InRange z × Meets s (int_of s.program) w
fits_number (fits_int r m) = (r, m)

null_fits : {s : Code} {t : ℕ} → NullMeets s (upto t) → NullFits s.program t
null_fits (null_type o) = o

decides_null : (s : Code) (w : Want) → Decides (NullMeets s w) (null_meets_test s w)
decides_null s any = holds null_any
decides_null s (upto t) = decides_as null_type null_fits (null_fits_exactly s.program t)

fields_both : {s : Code} {xs : List Object} {d : Slot} {ds : List Slot} {v : Value} {l : List Value} → FieldsOk s xs (d ∷ ds) (v ∷ l) → ValueFits s xs v (upto d.type) × FieldsOk s xs ds l
fields_both (a_field f fs) = (f, fs)

fields_short : {s : Code} {xs : List Object} {d : Slot} {ds : List Slot} → FieldsOk s xs (d ∷ ds) [] → ⊥
fields_short f = elim f [ ]

fields_long : {s : Code} {xs : List Object} {v : Value} {l : List Value} → FieldsOk s xs [] (v ∷ l) → ⊥
fields_long f = elim f [ ]

bindings_both : {s : Code} {xs : List Object} {b : Binding} {bs : List Binding} → BindingsOk s xs (b ∷ bs) → BindingOk s xs (length bs) b × BindingsOk s xs bs
bindings_both (a_binding h ok) = (h, ok)

call_awaits :
    {s : Code} {Γ : List Slot} {x m c : ℕ} {a : Point} {v : Want} (g : Signature) → TypeOf Γ x c → MsigIn s.program c g → g.name ≡ m → Meets s g.result v
    → Awaits s Γ (n_call x m a) g.param v
call_awaits g h i n k = rw (← n) (a_call h i k)

cast_view : (n : Node) (t : ℕ) → cast_type n ≡ some t → (a : Point) × (n ≡ n_cast t a)
cast_view n_null t h = absurd (none-ne-some _ h)
cast_view (n_var x) t h = absurd (none-ne-some _ h)
cast_view (n_select x f) t h = absurd (none-ne-some _ h)
cast_view (n_update x f a) t h = absurd (none-ne-some _ h)
cast_view (n_call x m a) t h = absurd (none-ne-some _ h)
cast_view (n_bind x a b) t h = absurd (none-ne-some _ h)
cast_view (n_new c) t h = absurd (none-ne-some _ h)
cast_view (n_cast u a) t h = (a, cc)
cast_view (n_fork a b c) t h = absurd (none-ne-some _ h)
cast_view (n_lock x a) t h = absurd (none-ne-some _ h)
cast_view (n_constant z) t h = absurd (none-ne-some _ h)
cast_view (n_add x y) t h = absurd (none-ne-some _ h)

module _ {s : Code} {start : ℕ} (acc : AcceptedCode s start) where
  decides_meets : (t : ℕ) (w : Want) → IsType s.program t → Decides (Meets s t w) (meets_test s t w)
  decides_meets t any i = holds meets_any
  decides_meets t (upto u) i = decides_as meets_type meets_sub (decides_below s.program acc.regular t u i)

  module _ (xs : List Object) (classes : Classes s xs) where
    decides_fits : (v : Value) (w : Want) → Decides (ValueFits s xs v w) (value_fits_test s xs v w)
    decides_fits nil w = decides_as fits_nil fits_null (decides_null s w)
    decides_fits (ref o) w = go (object xs o) refl
      where
        go : (q : Option Object) → object xs o ≡ q → Decides (ValueFits s xs (ref o) w) (object_test s w q)
        go none e = fails (λ f. let q = fits_object f in let z : ◌≡◌ {A = ℕ} 0 1 = cc q.1 in omega arith)
        go (some x) e =
            decides_as (fits_ref e) (λ f. let q = fits_object f in let i : q.0 ≡ x = cc q.1 in rw i at q.2) (decides_meets x.class w (omega (arith, (classes o x e).last)))
    decides_fits (int z) w =
        decides_as (λ h. fits_int h.0 h.1) fits_number (decides_and (decides_lt (mag z) HALF) (decides_meets (int_of s.program) w (omega arith)))

    decides_fields : (ds : List Slot) (l : List Value) → Decides (FieldsOk s xs ds l) (fields_test s xs ds l)
    decides_fields [] [] = holds no_fields
    decides_fields [] (v ∷ l) = fails fields_long
    decides_fields (d ∷ ds) [] = fails fields_short
    decides_fields (d ∷ ds) (v ∷ l) = decides_as (λ h. a_field h.0 h.1) fields_both (decides_and (decides_fits v (upto d.type)) (decides_fields ds l))

    decides_binding : (older : ℕ) (b : Binding) → Decides (BindingOk s xs older b) (binding_test s xs older b)
    decides_binding older b =
        decides_as
        (λ h. record { name = h.0; type = h.1.0; link = h.1.1.0; value = h.1.1.1 })
        (λ h. (h.name, (h.type, (h.link, h.value))))
        (decides_and (decides_lt b.name 65536)
        (decides_and (decides_le b.type (int_of s.program)) (decides_and (decides_le b.link older) (decides_fits b.value (upto b.type)))))

    decides_bindings : (bs : List Binding) → Decides (BindingsOk s xs bs) (bindings_test s xs bs)
    decides_bindings [] = holds no_bindings
    decides_bindings (b ∷ bs) = decides_as (λ h. a_binding h.0 h.1) bindings_both (decides_and (decides_binding (length bs) b) (decides_bindings bs))

  -- Γ ⊢ H, and Γ ⊢ V where the objects have classes
  pub decides_heap : (xs : List Object) → Decides ((o : ℕ) (x : Object) → object xs o ≡ some x → TypedObject s xs x) (all_of (is_class_test s) xs && all_of (λ x. fields_test s xs (fields_of s.program x.class) x.fields) xs)
  decides_heap xs =
      decides_as (λ h o x e. record { class = h.0 o x e; fields = h.1 o x e }) (λ h. (λ o x e. (h o x e).class, λ o x e. (h o x e).fields))
      (decides_then (decides_every _ (is_class_test s) xs (decides_class s))
      (λ classes. decides_every _ _ xs (λ x. decides_fields xs classes (fields_of s.program x.class) x.fields)))

  pub decides_vars : (xs : List Object) → ((o : ℕ) (x : Object) → object xs o ≡ some x → TypedObject s xs x) → (bs : List Binding) → Decides (BindingsOk s xs bs) (bindings_test s xs bs)
  decides_vars xs heap = decides_bindings xs (λ o x e. (heap o x e).class)

  decides_stores : (st : Stores) → Decides (StoresOk s st) (stores_test s st)
  decides_stores st =
      decides_as (λ h. record { bindings = h.1; heap = h.0 }) (λ h. (h.heap, h.bindings))
      (rw (and_assoc (all_of (is_class_test s) st.objects) (all_of (λ x. fields_test s st.objects (fields_of s.program x.class) x.fields) st.objects) (bindings_test s st.objects st.bindings)) at
      (decides_then (decides_heap st.objects) (λ heap. decides_vars st.objects heap st.bindings)))

  -- an expression; what is wanted is a type
  WantType : Want → Type 0
  WantType any = Unit {0}
  WantType (upto t) = IsType s.program t

  gives_upto : {Γ : List Slot} {e : Expr} {t : ℕ} {r : Answer} → WfEnv s.program Γ → IsType s.program t → Judged s.program Γ e (checks t) r → checked s.program Γ e t ≡ r
      → Decides (Gives s Γ e (upto t)) (is_typed r)
  gives_upto env i (passes c) e = holds (check_gives c)
  gives_upto {t = t} env i (refuses n) e =
      fails (λ g. let c = check_computes acc ((gives_checks acc env ((type_wf s.program t).0 i)).0 g) in let z : ◌≡◌ {A = ℕ} 0 1 = cc in omega arith)

  -- what is checked against some type is inferred, or checked against Unit
  some_type : {Γ : List Slot} {e : Expr} {t : ℕ} → Check s.program Γ e t → ((u : ℕ) × Infer s.program Γ e u) ⊎ Check s.program Γ e 0
  some_type {Γ} {e} {t} c = go (is_null (last_of e)) refl
    where
      go : (b : Bool) → is_null (last_of e) ≡ b → ((u : ℕ) × Infer s.program Γ e u) ⊎ Check s.program Γ e 0
      go true h = inr (null_ends h T-WF-UNIT (null_unit s.program) c)
      go false h = let r = (plain_infers s.program Γ e t h).0 c in inl (r.0, r.1)

  gives_any : {Γ : List Slot} {e : Expr} {r o : Answer} → WfEnv s.program Γ → Judged s.program Γ e infers r → inferred s.program Γ e ≡ r → Judged s.program Γ e (checks 0) o
      → checked s.program Γ e 0 ≡ o → Decides (Gives s Γ e any) (is_typed r || is_typed o)
  gives_any env (types h) e j k = holds (gives_type h meets_any)
  gives_any env (refuses n) e (passes c) k = holds ((gives_some acc env).1 (0, c))
  gives_any env (refuses n) e (refuses m) k =
      fails
      (λ g.
      ⊎_elim
      (λ h. let i = infer_computes acc h.1 in let z : ◌≡◌ {A = ℕ} 0 1 = cc in omega arith)
      (λ c. let i = check_computes acc c in let z : ◌≡◌ {A = ℕ} 0 1 = cc in omega arith)
      (some_type ((gives_some acc env).0 g).1))

  decides_gives : (Γ : List Slot) (e : Expr) (w : Want) → WfEnv s.program Γ → WantType w → Formed s.program e → Decides (Gives s Γ e w) (gives_test s Γ e w)
  unfolding WantType
  decides_gives Γ e any env i f =
      let j = judged s.program acc.regular Γ e in
      gives_any env (j infers env tt f) refl (j (checks 0) env (omega arith) f) refl
  decides_gives Γ e (upto t) env i f = gives_upto env i (judged s.program acc.regular Γ e (checks t) env i f) refl

  decides_at : (Γ : List Slot) (a : Point) (w : Want) → WfEnv s.program Γ → WantType w → Decides (NodeGives s Γ a w) (at_test s Γ a w)
  decides_at Γ a w env i =
      decides_as (λ h. record { node = h.0; gives = h.1 }) (λ h. (h.node, h.gives))
      (decides_then (decides_lt a s.size) (λ l. decides_gives Γ (s.expr a) w env i (acc.formed a l)))

  -- a node that waits
  awaited_sound : (Γ : List Slot) (i : Point) (n : Node) (v : Want) → WfEnv s.program Γ → WantType v → ((q : Point) → q ∈ parts n → LaterPart s i q) → (w : Want) → awaited s Γ n v ≡ some w
      → (t : ℕ) × (w ≡ upto t) × Awaits s Γ n t v
  awaited_sound Γ i n_null v env wt y w h = absurd (none-ne-some _ h)
  awaited_sound Γ i (n_var x) v env wt y w h = absurd (none-ne-some _ h)
  awaited_sound Γ i (n_select x f) v env wt y w h = absurd (none-ne-some _ h)
  awaited_sound Γ i (n_update x f a) v env wt y w h =
      let p = given_some (type_in Γ x) _ w h in
      let q = given_some (field_in s.program p.0 f) _ w p.2 in
      let k = only_some (meets_test s 0 v) (some (upto q.0)) w q.2 in (
        q.0,
        sym (some_same (upto q.0) w k.1),
        a_write ((typed_exactly Γ x p.0).0 p.1) ((field_in_lem s.program acc.regular p.0 f q.0).0 q.1) (says_yes (decides_meets 0 v (omega arith)) k.0),
      )
  awaited_sound Γ i (n_call x m a) v env wt y w h =
      let p = given_some (type_in Γ x) _ w h in
      let q = given_some (method_in s.program p.0 m) _ w p.2 in
      let k = only_some (meets_test s q.0.result v) (some (upto q.0.param)) w q.2 in
      let j = method_in_lem s.program acc.regular p.0 m q.0 q.1 in
      let r = (signature_types s.program acc.regular j.0).result in (
        q.0.param,
        sym (some_same (upto q.0.param) w k.1),
        call_awaits q.0 ((typed_exactly Γ x p.0).0 p.1) j.0 j.1 (says_yes (decides_meets q.0.result v r) k.0),
      )
  awaited_sound Γ i (n_bind x a b) v env wt y w h =
      let p = typed_some (inferred s.program Γ (s.expr a)) _ w h in
      let k = only_some (gives_test s (record { name = x; type = p.0 } ∷ Γ) (s.expr b) v) (some (upto p.0)) w p.2 in
      let u = inferred_typed s.program acc.regular Γ (s.expr a) p.0 env (acc.formed a (y a first).there) p.1 in
      let o = env_next acc x env u in
      (p.0, sym (some_same (upto p.0) w k.1), a_let u (says_yes (decides_gives _ (s.expr b) v o wt (acc.formed b (y b second).there)) k.0))
  awaited_sound Γ i (n_new c) v env wt y w h = absurd (none-ne-some _ h)
  awaited_sound Γ i (n_cast u a) v env wt y w h = absurd (none-ne-some _ h)
  awaited_sound Γ i (n_fork a b c) v env wt y w h = absurd (none-ne-some _ h)
  awaited_sound Γ i (n_lock x a) v env wt y w h = absurd (none-ne-some _ h)
  awaited_sound Γ i (n_constant z) v env wt y w h = absurd (none-ne-some _ h)
  awaited_sound Γ i (n_add x z) v env wt y w h = absurd (none-ne-some _ h)

  awaited_complete : {Γ : List Slot} {t : ℕ} {v : Want} (i : Point) (n : Node) → WfEnv s.program Γ → WantType v → ((q : Point) → q ∈ parts n → LaterPart s i q) → Awaits s Γ n t v
      → awaited s Γ n v ≡ some (upto t)
  awaited_complete {v = v} i (n_bind x a b) env wt y (a_let p g) =
      rw (infer_computes acc p, yes_said (decides_gives _ (s.expr b) v (env_next acc x env p) wt (acc.formed b (y b second).there)) g)
  awaited_complete {v = v} i (n_update x f a) env wt y (a_write {c = c} {t = t} h d m) =
      rw (type_in_lem h, (field_in_lem s.program acc.regular c f t).1 d, yes_said (decides_meets 0 v (omega arith)) m)
  awaited_complete {v = v} i (n_call x o a) env wt y (a_call {c = c} {u = u} h d m) =
      rw (type_in_lem h, method_only s.program acc.regular (rules_function acc.typed) c _ d, yes_said (decides_meets u v (signature_types s.program acc.regular d).result) m)
  awaited_complete {Γ = Γ} {t = t} {v = v} i n_null env wt y x4 = elim x4 [ ]
  awaited_complete {Γ = Γ} {t = t} {v = v} i (n_var _) env wt y x6 = elim x6 [ ]
  awaited_complete {Γ = Γ} {t = t} {v = v} i (n_select _ _) env wt y x8 = elim x8 [ ]
  awaited_complete {Γ = Γ} {t = t} {v = v} i (n_new _) env wt y x8 = elim x8 [ ]
  awaited_complete {Γ = Γ} {t = t} {v = v} i (n_cast _ _) env wt y x10 = elim x10 [ ]
  awaited_complete {Γ = Γ} {t = t} {v = v} i (n_fork _ _ _) env wt y x12 = elim x12 [ ]
  awaited_complete {Γ = Γ} {t = t} {v = v} i (n_lock _ _) env wt y x12 = elim x12 [ ]
  awaited_complete {Γ = Γ} {t = t} {v = v} i (n_constant _) env wt y x12 = elim x12 [ ]
  awaited_complete {Γ = Γ} {t = t} {v = v} i (n_add _ _) env wt y x14 = elim x14 [ ]

  -- frames
  cast_type_lem : (n a : Point) (t : ℕ) → n < s.size → s.view n ≡ n_cast t a → IsType s.program t
  cast_type_lem n a t l e = let f : Formed s.program (cast n t (s.expr a)) = rw (acc.built n l, e) at (acc.formed n l) in f.0

  awaits_type : {Γ : List Slot} {t : ℕ} {v : Want} (n : Node) → Awaits s Γ n t v → IsType s.program t
  awaits_type (n_bind x a b) (a_let h g) = infer_type s.program acc.regular h
  awaits_type (n_update x f a) (a_write h d m) = field_type s.program acc.regular d
  awaits_type (n_call x o a) (a_call h d m) = (signature_types s.program acc.regular d).param
  awaits_type {Γ = Γ} {t = t} {v = v} n_null x' = elim x' [ ]
  awaits_type {Γ = Γ} {t = t} {v = v} (n_var _) x3 = elim x3 [ ]
  awaits_type {Γ = Γ} {t = t} {v = v} (n_select _ _) x5 = elim x5 [ ]
  awaits_type {Γ = Γ} {t = t} {v = v} (n_new _) x5 = elim x5 [ ]
  awaits_type {Γ = Γ} {t = t} {v = v} (n_cast _ _) x7 = elim x7 [ ]
  awaits_type {Γ = Γ} {t = t} {v = v} (n_fork _ _ _) x9 = elim x9 [ ]
  awaits_type {Γ = Γ} {t = t} {v = v} (n_lock _ _) x9 = elim x9 [ ]
  awaits_type {Γ = Γ} {t = t} {v = v} (n_constant _) x9 = elim x9 [ ]
  awaits_type {Γ = Γ} {t = t} {v = v} (n_add _ _) x11 = elim x11 [ ]

  module _ (bs : List Binding) (env : (e : ℕ) → WfEnv s.program (context bs e)) where
    frames_type : {w u : Want} {fs : List Frame} → WantType w → FramesOk s bs w fs u → WantType u
    unfolding WantType
    frames_type wt no_frames = wt
    frames_type wt (a_node {n = n} l h p r) = awaits_type (s.view n) p
    frames_type wt (a_cast {n = n} {a = a} {t = t} l h m r) = cast_type_lem n a t l h
    frames_type wt (a_lock r) = frames_type wt r

    expects_sound : (w u : Want) (fs : List Frame) → WantType w → expects s bs w fs ≡ some u → FramesOk s bs w fs u
    expects_sound w u [] wt h = rw (some_same w u h) no_frames
    expects_sound w u (awaits n e ∷ fs) wt h =
        let p = given_some (expects s bs w fs) _ u h in
        let j = only_some (ltb n s.size) _ u p.2 in
        let q = only_some (leb e (length bs)) _ u j.1 in
        let l = ltb-true n s.size j.0 in
        let r = expects_sound w p.0 fs wt p.1 in
        let a = awaited_sound (context bs e) n (s.view n) p.0 (env e) (frames_type wt r) (acc.in_order n l) u q.1 in
        rw a.1 (a_node l (leb-true e (length bs) q.0) a.2 r)
    expects_sound w u (casts n ∷ fs) wt h =
        let p = given_some (expects s bs w fs) _ u h in
        let j = only_some (ltb n s.size) _ u p.2 in
        let i = given_some (cast_type (s.view n)) _ u j.1 in
        let k = only_some (meets_test s i.0 p.0) (some (upto i.0)) u i.2 in
        let l = ltb-true n s.size j.0 in
        let v = cast_view (s.view n) i.0 i.1 in
        rw (← some_same (upto i.0) u k.1)
        (a_cast l v.1 (says_yes (decides_meets i.0 p.0 (cast_type_lem n v.0 i.0 l v.1)) k.0) (expects_sound w p.0 fs wt p.1))
    expects_sound w u (locks o ∷ fs) wt h = a_lock (expects_sound w u fs wt h)

    expects_complete : {w u : Want} {fs : List Frame} → WantType w → FramesOk s bs w fs u → expects s bs w fs ≡ some u
    expects_complete wt no_frames = refl
    expects_complete wt (a_node {n = n} {e = e} l h p r) =
        rw (expects_complete wt r, lt-ltb n s.size l, le-leb e (length bs) h, awaited_complete n (s.view n) (env e) (frames_type wt r) (acc.in_order n l) p)
    expects_complete wt (a_cast {n = n} {a = a} {t = t} {v = v} l h m r) =
        rw (expects_complete wt r, lt-ltb n s.size l, h, yes_said (decides_meets t v (cast_type_lem n a t l h)) m)
    expects_complete wt (a_lock r) = expects_complete wt r

    -- something of what the frames wait for
    decides_want : (P : Want → Type 0) (test : Want → Bool) (w : Want) (fs : List Frame) → WantType w → ((v : Want) → WantType v → Decides (P v) (test v))
        → Decides ((v : Want) × FramesOk s bs w fs v × P v) (want_test (expects s bs w fs) test)
    decides_want P test w fs wt d = go (expects s bs w fs) refl
      where
        go : (o : Option Want) → expects s bs w fs ≡ o → Decides ((v : Want) × FramesOk s bs w fs v × P v) (want_test o test)
        go none e = fails (λ h. let q = expects_complete wt h.1 in let z : ◌≡◌ {A = ℕ} 0 1 = cc in omega arith)
        go (some v) e =
            let r = expects_sound w v fs wt e in
            decides_as (λ x. (v, r, x)) (λ h. let q = expects_complete wt h.1 in let i : h.0 ≡ v = cc in rw i at h.2) (d v (frames_type wt r))

  -- trees
  module _ (st : Stores) (ok : StoresOk s st) where
    env_at : (e : ℕ) → WfEnv s.program (context st.bindings e)
    env_at = context_wf ok.bindings

    fits_at : (v : Value) (w : Want) → Decides (ValueFits s st.objects v w) (value_fits_test s st.objects v w)
    fits_at = decides_fits st.objects (λ o x e. (ok.heap o x e).class)

    running_parts : {w : Want} {a : Point} {e : ℕ} {fs : List Frame} → TreeOk s st w (running a e fs)
        → (e ≤ length st.bindings) × ((v : Want) × FramesOk s st.bindings w fs v × NodeGives s (context st.bindings e) a v)
    running_parts (running_ok {v = v} le g r) = (le, (v, r, g))

    returning_parts : {w : Want} {x : Value} {fs : List Frame} → TreeOk s st w (returning x fs) → (v : Want) × FramesOk s st.bindings w fs v × ValueFits s st.objects x v
    returning_parts (returning_ok {v = v} f r) = (v, r, f)

    join_parts : {w : Want} {a : Point} {e : ℕ} {fs : List Frame} {l r : Tree} → TreeOk s st w (join fs a e l r)
        → (e ≤ length st.bindings) × (((v : Want) × FramesOk s st.bindings w fs v × NodeGives s (context st.bindings e) a v) × (TreeOk s st any l × TreeOk s st any r))
    join_parts (join_ok {v = v} le g r x y) = (le, ((v, r, g), (x, y)))

    decides_tree : (w : Want) (t : Tree) → WantType w → Decides (TreeOk s st w t) (tree_test s st w t)
    unfolding WantType
    decides_tree w (running a e fs) wt =
        decides_as (λ h. running_ok h.0 h.1.2 h.1.1) running_parts
        (decides_and (decides_le e (length st.bindings)) (decides_want st.bindings env_at _ _ w fs wt (λ v. decides_at (context st.bindings e) a v (env_at e))))
    decides_tree w (returning x fs) wt = decides_as (λ h. returning_ok h.2 h.1) returning_parts (decides_want st.bindings env_at _ _ w fs wt (λ v i. fits_at x v))
    decides_tree w failed wt = holds failed_ok
    decides_tree w (join fs a e l r) wt =
        decides_as (λ h. join_ok h.0 h.1.0.2 h.1.0.1 h.1.1.0 h.1.1.1) join_parts
        (decides_and (decides_le e (length st.bindings))
        (decides_and (decides_want st.bindings env_at _ _ w fs wt (λ v. decides_at (context st.bindings e) a v (env_at e))) (decides_and (decides_tree any l tt) (decides_tree any r tt))))

-- locks
decides_distinct : (xs : List Object) (t : Tree) → Decides ((o : ℕ) → lock_count o t ≤ shut_at xs o) (distinct_test xs t)
decides_distinct xs t = decides_as all (λ h o m. h o) (decides_all (λ o. lock_count o t ≤ shut_at xs o) _ (lock_list t) (λ o. decides_le (lock_count o t) (shut_at xs o)))
  where
    all : ((o : ℕ) → o ∈ lock_list t → lock_count o t ≤ shut_at xs o) → (o : ℕ) → lock_count o t ≤ shut_at xs o
    all h o = go (dec_lt 0 (lock_count o t))
      where
        go : Dec (0 < lock_count o t) → lock_count o t ≤ shut_at xs o
        go (yes k) = h o (lock_listed o t k)
        go (no k) = omega arith

below_listed : (n i : ℕ) → i < n → i ∈ numbers_below n
below_listed zero i h = absurd (omega arith)
below_listed (suc n) i h = go (ℕ_discrete i n) (below_listed n i)
  where
    go : Dec (i ≡ n) → (i < n → i ∈ numbers_below n) → i ∈ n ∷ numbers_below n
    go (yes e) f = Memᴰ.head e
    go (no e) f = Memᴰ.tail (f (omega arith))

shut_beyond : (xs : List Object) (o : ℕ) → length xs ≤ o → shut_at xs o ≡ 0
shut_beyond [] o h = refl
shut_beyond (x ∷ xs) zero h = absurd (omega arith)
shut_beyond (x ∷ xs) (suc o) h = shut_beyond xs o (omega arith)

decides_covered : (xs : List Object) (t : Tree) → Decides (failures t ≡ 0 → (o : ℕ) → shut_at xs o ≤ lock_count o t) (covered_test xs t)
decides_covered xs t =
    decides_as to back
    (decides_or (decides_not (decides_eq (failures t) 0)) (decides_all (λ o. shut_at xs o ≤ lock_count o t) _ (numbers_below (length xs)) (λ o. decides_le (shut_at xs o) (lock_count o t))))
  where
    all : ((o : ℕ) → o ∈ numbers_below (length xs) → shut_at xs o ≤ lock_count o t) → (o : ℕ) → shut_at xs o ≤ lock_count o t
    all h o = go (dec_lt o (length xs))
      where
        go : Dec (o < length xs) → shut_at xs o ≤ lock_count o t
        go (yes k) = h o (below_listed (length xs) o k)
        go (no k) = omega (arith, shut_beyond xs o (omega arith))

    to : ((failures t ≡ 0 → ⊥) ⊎ ((o : ℕ) → o ∈ numbers_below (length xs) → shut_at xs o ≤ lock_count o t)) → failures t ≡ 0 → (o : ℕ) → shut_at xs o ≤ lock_count o t
    to (inl n) z o = absurd (n z)
    to (inr h) z o = all h o

    back : (failures t ≡ 0 → (o : ℕ) → shut_at xs o ≤ lock_count o t) → (failures t ≡ 0 → ⊥) ⊎ ((o : ℕ) → o ∈ numbers_below (length xs) → shut_at xs o ≤ lock_count o t)
    back h = go (ℕ_discrete (failures t) 0)
      where
        go : Dec (failures t ≡ 0) → (failures t ≡ 0 → ⊥) ⊎ ((o : ℕ) → o ∈ numbers_below (length xs) → shut_at xs o ≤ lock_count o t)
        go (yes e) = inr (λ o m. h e o)
        go (no e) = inl e

pub decides_within : (lim : Places) (c : Config) → Decides (Within lim c) (within_limits_test lim c)
decides_within lim c =
    decides_as
    (λ h. record { objects = h.0; bindings = h.1.0; frames = h.1.1.0; threads = h.1.1.1 })
    (λ h. (h.objects, (h.bindings, (h.frames, h.threads))))
    (decides_and (decides_le _ lim.objects) (decides_and (decides_le _ lim.bindings) (decides_and (decides_le _ lim.frames) (decides_le _ lim.threads))))

-- The whole question: the test says whether the configuration is well formed for this script.
pub decides_well_formed : {s : Code} {start : ℕ} → AcceptedCode s start → (lim : Places) (c : Config) → Decides (WellFormed s lim start c) (well_formed_test s lim start c)
unfolding well_formed_test WantType
decides_well_formed {s} {start} acc lim c =
    decides_as
    (λ h. record { formed = record { stores = h.0; tree = h.1.0; distinct = h.1.1.0; covered = h.1.1.1.0 }; within = h.1.1.1.1 })
    (λ h. (h.formed.stores, (h.formed.tree, (h.formed.distinct, (h.formed.covered, h.within)))))
    (decides_then (decides_stores acc c.stores)
    (λ ok.
    decides_and (decides_tree acc c.stores ok (upto start) c.tree ((type_wf s.program start).1 (start_type acc)))
    (decides_and (decides_distinct c.stores.objects c.tree) (decides_and (decides_covered c.stores.objects c.tree) (decides_within lim c)))))
