-- The bytes of a script read as a program.
use Rattle.std.specs.Prelude.{ℕ, zero, suc, ◌-◌, cond, List, [], ◌∷◌, eqb, get_or}
use Rattle.words.specs.Integer.{integer}
pub use Rattle.script.specs.declared.Kind.{Kind}
pub use Rattle.script.specs.declared.Kind.TheVariants.{Null as null_kind, Variable as var_kind, Select as select_kind, Update as update_kind, Call as call_kind}
pub use Rattle.script.specs.declared.Kind.TheVariants.{Let as bind_kind, New as new_kind, Cast as cast_kind, Fork as fork_kind, Lock as lock_kind}
pub use Rattle.script.specs.declared.Kind.TheVariants.{Constant as constant_kind, Sum as add_kind, Unknown as unknown_kind}
use Rattle.script.specs.declared.Role.TheVariants.{Unused, Variable, Member, Bound, NewClass, CastType, Expression, Constant, Unknown}
use Rattle.script.specs.declared.Shape.{Shape}
use Rattle.script.specs.Lists.{run, sum_below}
use Rattle.script.specs.Section.{interfaces, signatures, classes, fields, methods, nodes, count_of, record_word, node_word}
use Rattle.script.specs.Syntax.{Point, Expr, null, Node, n_null, n_var, n_select, n_update, n_call, n_bind, n_new, n_cast, n_fork, n_lock}
use Rattle.script.specs.Syntax.{n_constant, n_add, build, Slot, Signature, Method, Interface, lists, extends, Class, Program}

-- "Kinds: 0 null; 1 variable a; 2 read field b of variable a; 3 the same field gets the value of c; 4 call method b of variable a with argument c;
-- 5 let a = b in c; 6 new class a; 7 cast to type a of b; 8 fork, asyncs a and b, then c; 9 lock variable a during b." "Kind 10 is a constant (a low word, b
-- high word, two's complement)", "kind 11 adds variables a and b".
unfoldable pub kind_of : ℕ → Kind
kind_of k =
    get_or
    (null_kind ∷ var_kind ∷ select_kind ∷ update_kind ∷ call_kind ∷ bind_kind ∷ new_kind ∷ cast_kind ∷ fork_kind ∷ lock_kind
    ∷ constant_kind ∷ add_kind ∷ [])
    k
    unknown_kind

-- What the words a, b and c of a node of this kind are there for.
abbrev pub shape_of : Kind → Shape
shape_of null_kind = record { 0 = Unused; 1 = Unused; 2 = Unused }
shape_of var_kind = record { 0 = Variable; 1 = Unused; 2 = Unused }
shape_of select_kind = record { 0 = Variable; 1 = Member; 2 = Unused }
shape_of update_kind = record { 0 = Variable; 1 = Member; 2 = Expression }
shape_of call_kind = record { 0 = Variable; 1 = Member; 2 = Expression }
shape_of bind_kind = record { 0 = Bound; 1 = Expression; 2 = Expression }
shape_of new_kind = record { 0 = NewClass; 1 = Unused; 2 = Unused }
shape_of cast_kind = record { 0 = CastType; 1 = Expression; 2 = Unused }
shape_of fork_kind = record { 0 = Expression; 1 = Expression; 2 = Expression }
shape_of lock_kind = record { 0 = Variable; 1 = Expression; 2 = Unused }
shape_of constant_kind = record { 0 = Constant; 1 = Constant; 2 = Unused }
shape_of add_kind = record { 0 = Variable; 1 = Variable; 2 = Unused }
shape_of unknown_kind = record { 0 = Unknown; 1 = Unknown; 2 = Unknown }

abbrev pub shape_at : List ℕ → Point → Shape
shape_at s n = shape_of (kind_of (node_word s n 0))

-- A node of this kind with words a, b and c. One of no known kind, which question 7 refuses, has no parts.
abbrev pub node_of : Kind → ℕ → ℕ → ℕ → Node
node_of null_kind a b c = n_null
node_of var_kind a b c = n_var a
node_of select_kind a b c = n_select a b
node_of update_kind a b c = n_update a b c
node_of call_kind a b c = n_call a b c
node_of bind_kind a b c = n_bind a b c
node_of new_kind a b c = n_new a
node_of cast_kind a b c = n_cast a b
node_of fork_kind a b c = n_fork a b c
node_of lock_kind a b c = n_lock a b
node_of constant_kind a b c = n_constant (integer a b)
node_of add_kind a b c = n_add a b
node_of unknown_kind a b c = n_null

unfoldable pub view_at : List ℕ → Point → Node
view_at s n = node_of (kind_of (node_word s n 0)) (node_word s n 1) (node_word s n 2) (node_word s n 3)

-- The expressions of the last k nodes, read off the table from the back: a node's parts have larger numbers, so each finds them among those after it.
unfoldable pub last_exprs : List ℕ → ℕ → List Expr
last_exprs s zero = []
last_exprs s (suc k) =
    let r = last_exprs s k in
    let n = count_of s nodes - suc k in
    build n (λ p. get_or r (p - suc n) (null 0)) (view_at s n) ∷ r

-- The expression at a point.
unfoldable pub expr_at : List ℕ → Point → Expr
expr_at s n = get_or (last_exprs s (count_of s nodes - n)) 0 (null 0)

-- How many records of another section belong to an owner: "form 0 (list) signature count", "field count, method count".
unfoldable pub own_signatures : List ℕ → ℕ → ℕ
own_signatures s i = cond (eqb (record_word s interfaces i 0) 0) (record_word s interfaces i 1) 0

unfoldable pub own_fields : List ℕ → ℕ → ℕ
own_fields s c = record_word s classes c 1

unfoldable pub own_methods : List ℕ → ℕ → ℕ
own_methods s c = record_word s classes c 2

-- "method name, parameter type, result type"
unfoldable pub signature_at : List ℕ → ℕ → Signature
signature_at s i = record { name = record_word s signatures i 0; param = record_word s signatures i 1; result = record_word s signatures i 2 }

-- "form; then for form 0 (list) signature count and 0; for form 1 (join) two earlier interface types"
unfoldable pub interface_at : List ℕ → ℕ → Interface
interface_at s i =
    cond
    (eqb (record_word s interfaces i 0) 1)
    (extends (record_word s interfaces i 1) (record_word s interfaces i 2))
    (lists (run (signature_at s) (sum_below (own_signatures s) i) (own_signatures s i)))

-- "name, type"
unfoldable pub field_at : List ℕ → ℕ → Slot
field_at s i = record { name = record_word s fields i 0; type = record_word s fields i 1 }

-- "name, parameter type, result type, body node"
unfoldable pub method_at : List ℕ → ℕ → Method
method_at s i =
    record {
      signature = record { name = record_word s methods i 0; param = record_word s methods i 1; result = record_word s methods i 2 };
      body = expr_at s (record_word s methods i 3);
    }

-- "interface type, field count, method count", and "Runs of signatures, fields and methods belong to their owners in order."
unfoldable pub class_at : List ℕ → ℕ → Class
class_at s c =
    record {
      implements = record_word s classes c 0;
      fields = run (field_at s) (sum_below (own_fields s) c) (own_fields s c);
      methods = run (method_at s) (sum_below (own_methods s) c) (own_methods s c);
    }

-- "Node 0 is the start expression."
unfoldable pub program_of : List ℕ → Program
program_of s =
    record {
      interfaces = run (interface_at s) 0 (count_of s interfaces);
      classes = run (class_at s) 0 (count_of s classes);
      start = expr_at s 0;
    }
