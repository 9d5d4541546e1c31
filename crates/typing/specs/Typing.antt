-- Questions 11 to 15: one walk over the bodies in method order, then the start. "At a node: fork sharing, target variable, field or method, parts in running
-- order, fitting; the first no counts, at that node."
use Rattle.std.specs.Prelude.{ℕ, ◌+◌, Bool, true, false, cond, not, ◌&&◌, ◌||◌, List, [], ◌∷◌, ◌++◌, map, eqb, length}
use Rattle.std.proofs.Math.Option.{Option, none, some}
use Rattle.script.specs.declared.Question.{Question}
use Rattle.script.specs.declared.Question.TheVariants.{Variables, Nulls, Members, Fits, Sharing}
use Rattle.script.specs.Syntax.{Point, Expr, null, var, select, update, call, bind, new, cast, fork, lock, constant, add, Slot, Method, Class}
use Rattle.script.specs.Syntax.{Program, int_of}
use Rattle.typing.specs.declared.Aim.{Aim}
use Rattle.typing.specs.declared.Aim.TheVariants.{Infers as infers, Checks as checks}
use Rattle.std.specs.declared.result.Result.TheVariants.{Ok, Err}
use Rattle.typing.specs.Answers.{Answer, faulty}
use Rattle.typing.specs.Environments.{Use, of_field, of_method, of_lock, body_env}
use Rattle.typing.specs.Members.{below, type_in, field_in, method_in}

-- fv(e): the free variables, those that are `Free` by `free_exactly`.
unfoldable pub without : ℕ → List ℕ → List ℕ
without x [] = []
without x (y ∷ l) = let r = without x l in cond (eqb y x) r (y ∷ r)

unfoldable pub fv : Expr → List ℕ
fv (null n) = []
fv (var n x) = x ∷ []
fv (select n x f) = x ∷ []
fv (update n x f e) = x ∷ fv e
fv (call n x m e) = x ∷ fv e
fv (bind n x e₁ e₂) = fv e₁ ++ without x (fv e₂)
fv (new n c) = []
fv (cast n t e) = fv e
fv (fork n e₁ e₂ e₃) = fv e₁ ++ (fv e₂ ++ fv e₃)
fv (lock n x e) = x ∷ fv e
fv (constant n z) = []
fv (add n x y) = x ∷ y ∷ []

-- Is x in the list, and do two lists share an element?
unfoldable pub is_in : ℕ → List ℕ → Bool
is_in x [] = false
is_in x (y ∷ l) = eqb y x || is_in x l

unfoldable pub shares : List ℕ → List ℕ → Bool
shares [] m = false
shares (x ∷ l) m = is_in x m || shares l m

-- Go on with a type, or hand the fault on.
abbrev pub and_then : Answer → (ℕ → Answer) → Answer
and_then (Ok t) k = k t
and_then (Err f) k = Err f

-- Go on with what was found, or question q gets a no at node n.
abbrev pub or_faulty : {A : Type 0} → Question → Point → Option A → (A → Answer) → Answer
or_faulty q n none k = faulty q n
or_faulty q n (some a) k = k a

abbrev pub unless_shared : Bool → Point → Answer → Answer
unless_shared true n r = faulty Sharing n
unless_shared false n r = r

-- "Is each inferred type below the wanted one?"
abbrev pub fits : Bool → Point → ℕ → Answer
fits true n t = Ok t
fits false n t = faulty Fits n

-- Is it Int?
abbrev pub int_test : Program → ℕ → Bool
int_test p t = eqb t (int_of p)

-- "A null is checked against any type", but "Null does not fit Int (14)".
abbrev pub null_test : Program → ℕ → Bool
null_test p t = not (int_test p t)

-- The question that gets a no where node n uses its target so, once the target's type has the field or method: "A lock target may have any type", but "Int is
-- no target of field, call or lock (13)". A later rule may ask more of a use.
abbrev pub lock_no : Bool → Option Question
lock_no true = some Members
lock_no false = none

abbrev pub use_no : Program → Point → Use → Option Question
use_no p n (of_field c f) = none
use_no p n (of_method t m) = none
use_no p n (of_lock t) = lock_no (int_test p t)

abbrev pub unless_no : Option Question → Point → Answer → Answer
unless_no none n r = r
unless_no (some q) n r = faulty q n

-- What is inferred for node n, asked with this aim: "Every other node is checked by inferring and asking whether the result is below the wanted type."
abbrev pub aimed : Program → Point → Aim → Answer → Answer
aimed p n infers r = r
aimed p n (checks t) r = and_then r (λ u. fits (below p u t) n t)

-- "A null is checked against any type and inferred never", but `null_test` excepts Int. "A write has type Unit. A cast infers its type after checking its
-- operand. Let, lock and fork infer the type of their last part", and "when a let, a lock or a fork is checked against a type, its last part is checked against
-- that same type": the aim goes on.
unfoldable pub answer : Program → List Slot → Expr → Aim → Answer
answer p Γ (null n) infers = faulty Nulls n
answer p Γ (null n) (checks t) = fits (null_test p t) n t
answer p Γ (var n x) a = aimed p n a (or_faulty Variables n (type_in Γ x) (λ t. Ok t))
answer p Γ (select n x f) a =
    aimed p n a
    (or_faulty Variables n (type_in Γ x) (λ t. or_faulty Members n (field_in p t f) (λ u. unless_no (use_no p n (of_field t f)) n (Ok u))))
answer p Γ (update n x f e) a =
    aimed p n a
    (or_faulty Variables n (type_in Γ x)
    (λ t. or_faulty Members n (field_in p t f) (λ u. unless_no (use_no p n (of_field t f)) n (and_then (answer p Γ e (checks u)) (λ v. Ok 0)))))
answer p Γ (call n x m e) a =
    aimed p n a
    (or_faulty Variables n (type_in Γ x)
    (λ t. or_faulty Members n (method_in p t m)
    (λ g. unless_no (use_no p n (of_method t m)) n (and_then (answer p Γ e (checks g.param)) (λ v. Ok g.result)))))
answer p Γ (bind n x e₁ e₂) a = and_then (answer p Γ e₁ infers) (λ t. answer p (record { name = x; type = t } ∷ Γ) e₂ a)
answer p Γ (new n c) a = aimed p n a (Ok c)
answer p Γ (cast n t e) a = aimed p n a (answer p Γ e (checks t))
answer p Γ (fork n e₁ e₂ e₃) a =
    let r = and_then (answer p Γ e₁ infers) (λ t. and_then (answer p Γ e₂ infers) (λ u. answer p Γ e₃ a)) in
    unless_shared (shares (fv e₁) (fv e₂)) n r
answer p Γ (lock n x e) a =
    let r = answer p Γ e a in
    or_faulty Variables n (type_in Γ x) (λ t. unless_no (use_no p n (of_lock t)) n r)
-- "kind 11 adds variables a and b, both bound (11), then both of type Int (14)"
answer p Γ (constant n z) a = aimed p n a (Ok (int_of p))
answer p Γ (add n x y) a =
    aimed p n a
    (or_faulty Variables n (type_in Γ x) (λ t. or_faulty Variables n (type_in Γ y) (λ u. fits (int_test p t && int_test p u) n (int_of p))))

abbrev pub inferred : Program → List Slot → Expr → Answer
inferred p Γ e = answer p Γ e infers

abbrev pub checked : Program → List Slot → Expr → ℕ → Answer
checked p Γ e t = answer p Γ e (checks t)

-- A method with the type of its class.
pub record Body : Type 0 where
  pub class : ℕ
  pub method : Method

unfoldable pub bodies_from : ℕ → List Class → List Body
bodies_from t [] = []
bodies_from t (c ∷ l) = map (λ m. record { class = t; method = m }) c.methods ++ bodies_from (t + 1) l

-- Every body, "in method order" by `in_method_order`.
unfoldable pub bodies_of : Program → List Body
bodies_of p = bodies_from (length p.interfaces + 1) p.classes

-- "Bodies are checked against the result type; the start is inferred with no variable."
unfoldable pub walk : Program → List Body → Answer
walk p [] = inferred p [] p.start
walk p (b ∷ l) =
    let r = walk p l in
    and_then (checked p (body_env b.class b.method.signature) b.method.body b.method.signature.result) (λ t. r)
