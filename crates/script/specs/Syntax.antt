-- The syntax of OOlong, Figure 2. Names are numbers, and so are types: "Type 0 is Unit; interfaces are 1 to I, classes I+1 to I+C" and
-- "Type I+C+1 is Int".
use Rattle.std.specs.Prelude.{ℕ, zero, suc, ◌+◌, ◌-◌, Bool, true, false, List, [], ◌∷◌, eqb, ltb, ℤ, length, get_or}

-- A place in the program: the number of a node.
abbrev pub Point : Type 0
Point = ℕ

-- e, without the forms of run time. The first number of each is its node's, so that a place can be said.
-- "Variable 0 is `this`, 1 the parameter; `let` binds 2 or more".
pub data Expr : Type 0 where
  null : Point → Expr
  var : Point → ℕ → Expr
  select : Point → ℕ → ℕ → Expr
  update : Point → ℕ → ℕ → Expr → Expr
  call : Point → ℕ → ℕ → Expr → Expr
  bind : Point → ℕ → Expr → Expr → Expr
  new : Point → ℕ → Expr
  cast : Point → ℕ → Expr → Expr
  fork : Point → Expr → Expr → Expr → Expr
  lock : Point → ℕ → Expr → Expr
  -- "Kind 10 is a constant", and "kind 11 adds variables a and b"
  constant : Point → ℤ → Expr
  add : Point → ℕ → ℕ → Expr

-- One layer of an expression: the node at a point, whose parts are points.
pub data Node : Type 0 where
  n_null : Node
  n_var : ℕ → Node
  n_select : ℕ → ℕ → Node
  n_update : ℕ → ℕ → Point → Node
  n_call : ℕ → ℕ → Point → Node
  n_bind : ℕ → Point → Point → Node
  n_new : ℕ → Node
  n_cast : ℕ → Point → Node
  n_fork : Point → Point → Point → Node
  n_lock : ℕ → Point → Node
  n_constant : ℤ → Node
  n_add : ℕ → ℕ → Node

-- A node's parts, in running order.
abbrev pub parts : Node → List Point
parts n_null = []
parts (n_var x) = []
parts (n_select x f) = []
parts (n_update x f p) = p ∷ []
parts (n_call x m p) = p ∷ []
parts (n_bind x p q) = p ∷ q ∷ []
parts (n_new c) = []
parts (n_cast t p) = p ∷ []
parts (n_fork p q r) = p ∷ q ∷ r ∷ []
parts (n_lock x p) = p ∷ []
parts (n_constant z) = []
parts (n_add x y) = []

-- The expression of the node at point n, where f gives those of its parts.
abbrev pub build : Point → (Point → Expr) → Node → Expr
build n f n_null = null n
build n f (n_var x) = var n x
build n f (n_select x g) = select n x g
build n f (n_update x g p) = update n x g (f p)
build n f (n_call x m p) = call n x m (f p)
build n f (n_bind x p q) = bind n x (f p) (f q)
build n f (n_new c) = new n c
build n f (n_cast t p) = cast n t (f p)
build n f (n_fork p q r) = fork n (f p) (f q) (f r)
build n f (n_lock x p) = lock n x (f p)
build n f (n_constant z) = constant n z
build n f (n_add x y) = add n x y

-- The node of an expression.
abbrev pub point_of : Expr → Point
point_of (null n) = n
point_of (var n x) = n
point_of (select n x f) = n
point_of (update n x f e) = n
point_of (call n x m e) = n
point_of (bind n x e₁ e₂) = n
point_of (new n c) = n
point_of (cast n t e) = n
point_of (fork n e₁ e₂ e₃) = n
point_of (lock n x e) = n
point_of (constant n z) = n
point_of (add n x y) = n

abbrev pub is_null : Expr → Bool
is_null (null n) = true
is_null (var n x) = false
is_null (select n x f) = false
is_null (update n x f e) = false
is_null (call n x m e) = false
is_null (bind n x e₁ e₂) = false
is_null (new n c) = false
is_null (cast n t e) = false
is_null (fork n e₁ e₂ e₃) = false
is_null (lock n x e) = false
is_null (constant n z) = false
is_null (add n x y) = false

-- A name with its type: Fd ::= f : t, and x : t in an environment.
pub record Slot : Type 0 where
  pub name : ℕ
  pub type : ℕ

-- Msig ::= m(x : t₁) : t₂
pub record Signature : Type 0 where
  pub name : ℕ
  pub param : ℕ
  pub result : ℕ

-- Md ::= def Msig {e}
pub record Method : Type 0 where
  pub signature : Signature
  pub body : Expr

-- Id ::= interface I {Msigs} | interface I extends I₁, I₂
pub data Interface : Type 0 where
  lists : List Signature → Interface
  extends : ℕ → ℕ → Interface

-- Cd ::= class C implements I {Fds Mds}
pub record Class : Type 0 where
  pub implements : ℕ
  pub fields : List Slot
  pub methods : List Method

-- P ::= Ids Cds e
pub record Program : Type 0 where
  pub interfaces : List Interface
  pub classes : List Class
  pub start : Expr

-- What a type number stands for in a program.
pub data Declaration : Type 0 where
  a_unit : Declaration
  an_interface : Interface → Declaration
  a_class : Class → Declaration
  an_int : Declaration
  no_type : Declaration

-- "Type I+C+1 is Int"
abbrev pub int_of : Program → ℕ
int_of p = suc (length p.interfaces + length p.classes)

-- What P declares under type number i + 1, by whether there is such an interface, such a class, and whether it is Int.
abbrev pub declared : Program → ℕ → Bool → Bool → Bool → Declaration
declared p i true c d = an_interface (get_or p.interfaces i (lists []))
declared p i false true d = a_class (get_or p.classes (i - length p.interfaces) (record { implements = 0; fields = []; methods = [] }))
declared p i false false true = an_int
declared p i false false false = no_type

unfoldable pub declaration_at : Program → ℕ → Declaration
declaration_at p zero = a_unit
declaration_at p (suc i) =
    declared p i (ltb i (length p.interfaces)) (ltb i (length p.interfaces + length p.classes)) (eqb (suc i) (int_of p))
