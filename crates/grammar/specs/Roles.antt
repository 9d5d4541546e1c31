-- What each token of a derivation is there, in the order in which `spelled` and its like have them: by these numbers names are counted, faults have places,
-- and records have first tokens. `roles` and `spelled` are as long as each other.
use Rattle.std.specs.Prelude.{ℕ, ◌+◌, ◌*◌, Bool, true, false, List, [], ◌∷◌, ◌++◌}
use Rattle.std.proofs.Math.Option.{Option, none, some}
use Rattle.grammar.specs.Tokens.{Spelling, same_spelling}
use Rattle.grammar.specs.Grammar.{X, x_this, x_name, T, t_unit, t_int, t_name, E, e_null, e_variable, e_select, e_update, e_call, e_let, e_new, e_cast}
use Rattle.grammar.specs.Grammar.{e_fork, e_lock, e_digits, e_minus, e_sum, e_sum_in, Msig, Id, id_list, id_join, Fd, Md, Cd, Derivation}

-- A token that is none of the following.
abbrev pub PLAIN : ℕ
PLAIN = 0

-- `interface`, `class`, `def`; the names of a signature and a field: the first tokens of records.
abbrev pub R_INTERFACE : ℕ
R_INTERFACE = 1

abbrev pub R_CLASS : ℕ
R_CLASS = 2

abbrev pub R_METHOD : ℕ
R_METHOD = 3

abbrev pub R_SIGNATURE : ℕ
R_SIGNATURE = 4

abbrev pub R_FIELD : ℕ
R_FIELD = 5

-- The name that a declaration declares, a name of a type, and the two types that are spelled out.
abbrev pub R_DECLARED : ℕ
R_DECLARED = 6

abbrev pub R_TYPE : ℕ
R_TYPE = 7

abbrev pub R_UNIT : ℕ
R_UNIT = 8

abbrev pub R_INT : ℕ
R_INT = 9

-- Other names: a `def`'s method, a let's variable, a field and a method behind a dot, a variable that does not begin its expression.
abbrev pub R_METHOD_NAME : ℕ
R_METHOD_NAME = 10

abbrev pub R_BINDER : ℕ
R_BINDER = 11

abbrev pub R_FIELD_USED : ℕ
R_FIELD_USED = 12

abbrev pub R_METHOD_USED : ℕ
R_METHOD_USED = 13

abbrev pub R_OPERAND : ℕ
R_OPERAND = 14

-- The first token of an expression, from here on, in the order of the kinds of nodes; a sum begins with its first variable or with `(`, an integer with its
-- digits or with its minus.
abbrev pub R_NULL : ℕ
R_NULL = 16

abbrev pub R_VARIABLE : ℕ
R_VARIABLE = 17

abbrev pub R_SELECT : ℕ
R_SELECT = 18

abbrev pub R_UPDATE : ℕ
R_UPDATE = 19

abbrev pub R_CALL : ℕ
R_CALL = 20

abbrev pub R_LET : ℕ
R_LET = 21

abbrev pub R_NEW : ℕ
R_NEW = 22

abbrev pub R_CAST : ℕ
R_CAST = 23

abbrev pub R_FORK : ℕ
R_FORK = 24

abbrev pub R_LOCK : ℕ
R_LOCK = 25

abbrev pub R_INTEGER : ℕ
R_INTEGER = 26

abbrev pub R_SUM : ℕ
R_SUM = 27

abbrev pub R_SUM_IN : ℕ
R_SUM_IN = 28

abbrev pub R_NEGATIVE : ℕ
R_NEGATIVE = 29

-- All roles are below this number; a variable's binding is counted in it.
abbrev pub BINDING : ℕ
BINDING = 32

-- "`this`, spelled out and never bound, is variable 0, an occurrence bound by the parameter 1, others in expressions count from 2 likewise".
abbrev pub B_THIS : ℕ
B_THIS = 0

abbrev pub B_PARAMETER : ℕ
B_PARAMETER = 1

abbrev pub B_OTHER : ℕ
B_OTHER = 2

-- The parameter's name, where it binds: in a method's body but for the second parts of lets of that name.
abbrev pub Scope : Type 0
Scope = Option Spelling

abbrev unless_same : Bool → Spelling → Scope
unless_same true p = none
unless_same false p = some p

-- The scope of a let's second part.
abbrev pub under : Spelling → Scope → Scope
under y none = none
under y (some p) = unless_same (same_spelling y p) p

abbrev bound_if : Bool → ℕ
bound_if true = B_PARAMETER
bound_if false = B_OTHER

abbrev pub binding_by : Scope → X → ℕ
binding_by c x_this = B_THIS
binding_by none (x_name y) = B_OTHER
binding_by (some p) (x_name y) = bound_if (same_spelling y p)

-- A variable's role, with its binding.
abbrev pub bound : ℕ → Scope → X → ℕ
bound r c x = r + BINDING * binding_by c x

abbrev pub type_role : T → ℕ
type_role t_unit = R_UNIT
type_role t_int = R_INT
type_role (t_name c) = R_TYPE

unfoldable pub roles : Scope → E → List ℕ
roles c e_null = R_NULL ∷ []
roles c (e_variable x) = bound R_VARIABLE c x ∷ []
roles c (e_select x f) = bound R_SELECT c x ∷ PLAIN ∷ R_FIELD_USED ∷ []
roles c (e_update x f e) = bound R_UPDATE c x ∷ PLAIN ∷ R_FIELD_USED ∷ PLAIN ∷ roles c e
roles c (e_call x m e) = bound R_CALL c x ∷ PLAIN ∷ R_METHOD_USED ∷ PLAIN ∷ (roles c e ++ (PLAIN ∷ []))
roles c (e_let y e₁ e₂) = R_LET ∷ R_BINDER ∷ PLAIN ∷ (roles c e₁ ++ (PLAIN ∷ roles (under y c) e₂))
roles c (e_new t) = R_NEW ∷ R_TYPE ∷ []
roles c (e_cast t e) = R_CAST ∷ type_role t ∷ PLAIN ∷ roles c e
roles c (e_fork e₁ e₂ e₃) =
    R_FORK ∷
    PLAIN ∷
    PLAIN ∷
    PLAIN ∷
    (roles c e₁ ++ (PLAIN ∷ PLAIN ∷ PLAIN ∷ (roles c e₂ ++ (PLAIN ∷ PLAIN ∷ PLAIN ∷ roles c e₃))))
roles c (e_lock x e) = R_LOCK ∷ PLAIN ∷ bound R_OPERAND c x ∷ PLAIN ∷ PLAIN ∷ roles c e
roles c (e_digits d) = R_INTEGER ∷ []
roles c (e_minus d) = R_NEGATIVE ∷ PLAIN ∷ []
roles c (e_sum x y) = bound R_SUM c x ∷ PLAIN ∷ bound R_OPERAND c y ∷ []
roles c (e_sum_in x y) = R_SUM_IN ∷ bound R_OPERAND c x ∷ PLAIN ∷ bound R_OPERAND c y ∷ PLAIN ∷ []

-- Of m ( p : t ) : t, where the first role is a signature's or a method's.
abbrev pub roles_msig : ℕ → Msig → List ℕ
roles_msig r s = r ∷ PLAIN ∷ PLAIN ∷ PLAIN ∷ type_role s.takes ∷ PLAIN ∷ PLAIN ∷ type_role s.gives ∷ []

unfoldable pub roles_all : {A : Type 0} → (A → List ℕ) → List A → List ℕ
roles_all f [] = []
roles_all f (a ∷ l) = f a ++ roles_all f l

unfoldable pub roles_id : Id → List ℕ
roles_id (id_list i ms) = R_INTERFACE ∷ R_DECLARED ∷ PLAIN ∷ (roles_all (roles_msig R_SIGNATURE) ms ++ (PLAIN ∷ []))
roles_id (id_join i a b) = R_INTERFACE ∷ R_DECLARED ∷ PLAIN ∷ R_TYPE ∷ PLAIN ∷ R_TYPE ∷ []

abbrev pub roles_fd : Fd → List ℕ
roles_fd f = R_FIELD ∷ PLAIN ∷ type_role f.holds ∷ []

unfoldable pub roles_md : Md → List ℕ
roles_md m = R_METHOD ∷ (roles_msig R_METHOD_NAME m.msig ++ (PLAIN ∷ (roles (some m.msig.parameter) m.body ++ (PLAIN ∷ []))))

unfoldable pub roles_cd : Cd → List ℕ
roles_cd c = R_CLASS ∷ R_DECLARED ∷ PLAIN ∷ R_TYPE ∷ PLAIN ∷ (roles_all roles_fd c.fds ++ (roles_all roles_md c.mds ++ (PLAIN ∷ [])))

-- Of all that comes before the start, and of the whole text.
unfoldable pub roles_before : Derivation → List ℕ
roles_before d = roles_all roles_id d.ids ++ roles_all roles_cd d.cds

unfoldable pub roles_text : Derivation → List ℕ
roles_text d = roles_before d ++ roles none d.start
