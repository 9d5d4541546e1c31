-- "Is the block a well-formed configuration of this script?" as a computed answer, of a configuration. `proofs/Decide.antt` shows that it decides `WellFormed`.
use Rattle.std.specs.Prelude.{ℕ, zero, suc, ◌+◌, Bool, true, false, not, ◌&&◌, ◌||◌, List, [], ◌∷◌, ◌++◌, eqb, leb, ltb, length}
use Rattle.std.proofs.Math.Option.{Option, none, some}
use Rattle.words.specs.Word.{WORD}
use Rattle.words.specs.Integer.{range_test}
use Rattle.script.specs.Questions.{all_of}
use Rattle.script.specs.Syntax.{Point, Node, n_null, n_var, n_select, n_update, n_call, n_bind, n_new, n_cast, n_fork, n_lock, n_constant, n_add}
use Rattle.script.specs.Syntax.{Expr, Slot, int_of}
use Rattle.std.specs.declared.result.Result.TheVariants.{Ok, Err}
use Rattle.typing.specs.Answers.{Answer}
use Rattle.typing.specs.Members.{below, type_in, field_in, method_in, fields_of}
use Rattle.typing.specs.Typing.{null_test, inferred, checked}
use Rattle.machine.specs.declared.Value.{Value}
use Rattle.machine.specs.declared.Value.TheVariants.{Null as nil, Ref as ref, Int as int}
use Rattle.machine.specs.declared.Frame.{Frame}
use Rattle.machine.specs.declared.Frame.TheVariants.{Awaits as awaits, Casts as casts, Locks as locks}
use Rattle.machine.specs.Config.{Code, Object, Binding, Stores, Tree, running, returning, failed, join, Config}
use Rattle.machine.specs.Machine.{context, object, Places, frame_count, thread_count, held}
use Rattle.machine.specs.declared.Want.{Want}
use Rattle.machine.specs.declared.Want.TheVariants.{Any as any, Upto as upto}
use Rattle.machine.specs.WellFormed.{lock_count, failures, shut_at}

-- Go on with what is found, with a type, or where a test passes.
abbrev pub given : {A B : Type 0} → Option A → (A → Option B) → Option B
given none f = none
given (some a) f = f a

abbrev pub if_typed : {B : Type 0} → Answer → (ℕ → Option B) → Option B
if_typed (Ok t) f = f t
if_typed (Err _) f = none

abbrev pub only : {A : Type 0} → Bool → Option A → Option A
only true o = o
only false o = none

-- Meets, NullMeets, ValueFits, Gives and NodeGives
abbrev pub meets_test : Code → ℕ → Want → Bool
meets_test s t any = true
meets_test s t (upto u) = below s.program t u

abbrev pub object_test : Code → Want → Option Object → Bool
object_test s w none = false
object_test s w (some x) = meets_test s x.class w

abbrev pub null_meets_test : Code → Want → Bool
null_meets_test s any = true
null_meets_test s (upto t) = null_test s.program t

abbrev pub value_fits_test : Code → List Object → Value → Want → Bool
value_fits_test s xs nil w = null_meets_test s w
value_fits_test s xs (ref o) w = object_test s w (object xs o)
value_fits_test s xs (int z) w = range_test z && meets_test s (int_of s.program) w

abbrev pub is_typed : Answer → Bool
is_typed (Ok t) = true
is_typed (Err _) = false

-- Where any type will do, an expression that has none may yet end in null: then Unit will do.
abbrev pub gives_test : Code → List Slot → Expr → Want → Bool
gives_test s Γ e any = is_typed (inferred s.program Γ e) || is_typed (checked s.program Γ e 0)
gives_test s Γ e (upto t) = is_typed (checked s.program Γ e t)

abbrev pub at_test : Code → List Slot → Point → Want → Bool
at_test s Γ a w = ltb a s.size && gives_test s Γ (s.expr a) w

-- The stores
abbrev pub is_class_test : Code → Object → Bool
is_class_test s x = ltb (length s.program.interfaces) x.class && leb x.class (length s.program.interfaces + length s.program.classes)

abbrev pub fields_test : Code → List Object → List Slot → List Value → Bool
fields_test s xs [] [] = true
fields_test s xs [] (v ∷ l) = false
fields_test s xs (d ∷ ds) [] = false
fields_test s xs (d ∷ ds) (v ∷ l) = value_fits_test s xs v (upto d.type) && fields_test s xs ds l

abbrev pub binding_test : Code → List Object → ℕ → Binding → Bool
binding_test s xs older b =
    ltb b.name WORD
    && (leb b.type (int_of s.program)
    && (leb b.link older && value_fits_test s xs b.value (upto b.type)))

abbrev pub bindings_test : Code → List Object → List Binding → Bool
bindings_test s xs [] = true
bindings_test s xs (b ∷ bs) = binding_test s xs (length bs) b && bindings_test s xs bs

abbrev pub stores_test : Code → Stores → Bool
stores_test s st =
    all_of (is_class_test s) st.objects
    && (all_of (λ x. fields_test s st.objects (fields_of s.program x.class) x.fields) st.objects && bindings_test s st.objects st.bindings)

-- A value of type t is waited for, if one of type u, which is given then, meets what is expected.
abbrev pub wants : Code → ℕ → Want → ℕ → Option Want
wants s u v t = only (meets_test s u v) (some (upto t))

-- Awaits: what a waiting node waits for, where v is expected beneath its frame.
abbrev pub awaited : Code → List Slot → Node → Want → Option Want
awaited s Γ n_null v = none
awaited s Γ (n_var x) v = none
awaited s Γ (n_select x f) v = none
awaited s Γ (n_update x f a) v = given (type_in Γ x) (λ c. given (field_in s.program c f) (λ t. wants s 0 v t))
awaited s Γ (n_call x m a) v = given (type_in Γ x) (λ c. given (method_in s.program c m) (λ g. wants s g.result v g.param))
awaited s Γ (n_bind x a b) v =
    if_typed (inferred s.program Γ (s.expr a))
    (λ t. only (gives_test s (record { name = x; type = t } ∷ Γ) (s.expr b) v) (some (upto t)))
awaited s Γ (n_new c) v = none
awaited s Γ (n_cast t a) v = none
awaited s Γ (n_fork a b c) v = none
awaited s Γ (n_lock x a) v = none
awaited s Γ (n_constant z) v = none
awaited s Γ (n_add x y) v = none

abbrev pub cast_type : Node → Option ℕ
cast_type n_null = none
cast_type (n_var x) = none
cast_type (n_select x f) = none
cast_type (n_update x f a) = none
cast_type (n_call x m a) = none
cast_type (n_bind x a b) = none
cast_type (n_new c) = none
cast_type (n_cast t a) = some t
cast_type (n_fork a b c) = none
cast_type (n_lock x a) = none
cast_type (n_constant z) = none
cast_type (n_add x y) = none

-- What the frames wait for, if they are typed: an expectation goes up from the bottom.
abbrev pub expects : Code → List Binding → Want → List Frame → Option Want
expects s bs w [] = some w
expects s bs w (awaits n e ∷ fs) =
    given (expects s bs w fs)
    (λ v.
    only (ltb n s.size) (only (leb e (length bs)) (awaited s (context bs e) (s.view n) v)))
expects s bs w (casts n ∷ fs) =
    given (expects s bs w fs) (λ v. only (ltb n s.size) (given (cast_type (s.view n)) (λ t. wants s t v t)))
expects s bs w (locks o ∷ fs) = expects s bs w fs

-- The tree
abbrev pub want_test : Option Want → (Want → Bool) → Bool
want_test none f = false
want_test (some v) f = f v

abbrev pub tree_test : Code → Stores → Want → Tree → Bool
tree_test s st w (running a e fs) = leb e (length st.bindings) && want_test (expects s st.bindings w fs) (λ v. at_test s (context st.bindings e) a v)
tree_test s st w (returning x fs) = want_test (expects s st.bindings w fs) (λ v. value_fits_test s st.objects x v)
tree_test s st w failed = true
tree_test s st w (join fs a e l r) =
    leb e (length st.bindings)
    && (want_test (expects s st.bindings w fs) (λ v. at_test s (context st.bindings e) a v) && (tree_test s st any l && tree_test s st any r))

-- The locks: the objects of all lock frames, and the two tests.
abbrev pub lock_list : Tree → List ℕ
lock_list (running a e fs) = held fs
lock_list (returning v fs) = held fs
lock_list failed = []
lock_list (join fs a e l r) = held fs ++ (lock_list l ++ lock_list r)

abbrev pub distinct_test : List Object → Tree → Bool
distinct_test xs t = all_of (λ o. leb (lock_count o t) (shut_at xs o)) (lock_list t)

abbrev pub numbers_below : ℕ → List ℕ
numbers_below zero = []
numbers_below (suc n) = n ∷ numbers_below n

abbrev pub covered_test : List Object → Tree → Bool
covered_test xs t = not (eqb (failures t) 0) || all_of (λ o. leb (shut_at xs o) (lock_count o t)) (numbers_below (length xs))

abbrev pub within_limits_test : Places → Config → Bool
within_limits_test lim c =
    leb (length c.stores.objects) lim.objects
    && (leb (length c.stores.bindings) lim.bindings && (leb (frame_count c.tree) lim.frames && leb (thread_count c.tree) lim.threads))

unfoldable pub well_formed_test : Code → Places → ℕ → Config → Bool
well_formed_test s lim t c =
    stores_test s c.stores
    && (tree_test s c.stores (upto t) c.tree
    && (distinct_test c.stores.objects c.tree && (covered_test c.stores.objects c.tree && within_limits_test lim c)))
