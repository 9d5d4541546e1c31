-- A state of the parser without its trees.
use Prim.Native.Nat.{ℕ, ◌+◌, ◌*◌}
use mathlib.Core.Bool.{Bool, true, false, not, ◌&&◌, cond}
use mathlib.Core.List.{List, [], ◌∷◌, reverse_aux}
use mathlib.Core.Option.{none, some}
use lib.ListN.{length}
use Rattle.grammar.specs.Tokens.{Spelling, same_spelling}
use Rattle.grammar.specs.Grammar.{x_this, x_name, Msig, Id, Md, Cd, E}
use Rattle.grammar.specs.Roles.{PLAIN, R_INTERFACE, R_CLASS, R_METHOD, R_SIGNATURE, R_FIELD, R_DECLARED, R_TYPE, R_METHOD_NAME, R_BINDER}
use Rattle.grammar.specs.Roles.{R_FIELD_USED, R_METHOD_USED, R_OPERAND, R_VARIABLE, R_SELECT, R_UPDATE, R_CALL, R_LET, R_NEW, R_CAST, R_FORK}
use Rattle.grammar.specs.Roles.{R_LOCK, R_SUM, R_SUM_IN, R_NEGATIVE, Scope, bound, type_role, roles, roles_msig, roles_all, roles_id, roles_fd, roles_md}
use Rattle.grammar.specs.Roles.{roles_cd}
use Rattle.grammar.specs.Parse.{Heading, Around, around_start, in_body, around_let, argument, first_async, second_async, in_update, in_let, in_cast, in_fork, in_lock}
use Rattle.grammar.specs.Parse.{Owner, of_interface, of_class, State, at_top, at_top_c, at_iface_name, at_iface_body, at_sigs, at_ext_1, at_ext_comma, at_ext_2}
use Rattle.grammar.specs.Parse.{at_sig_open, at_sig_param, at_sig_colon, at_sig_type, at_sig_close, at_sig_colon2, at_sig_result, at_class_name, at_class_impl}
use Rattle.grammar.specs.Parse.{at_class_type, at_class_open, at_fields, at_field_colon, at_field_type, at_methods, at_def_name, at_def_brace, at_expr, at_ended}
use Rattle.grammar.specs.Parse.{at_variable, at_dot, at_plus, at_member, at_paren, at_paren_plus, at_inside, at_cast_close, at_plus_in, at_sum_close, at_let_name}
use Rattle.grammar.specs.Parse.{at_let_eq, at_new_name, at_minus, at_fork_brace, at_fork_async, at_fork_open, at_second_async, at_second_open, at_second_shut}
use Rattle.grammar.specs.Parse.{at_fork_semi, at_lock_open, at_lock_var, at_lock_close, at_lock_in}
use Rattle.flat.specs.Flat.{Flat, PUSH_LET, PUSH_CALL, PUSH_FIRST, PUSH_SECOND, PUSH_BODY, CLOSERS, POINTS, EXPR, VARIABLE, MEMBER}
use Rattle.flat.specs.Flat.{ENDED, TOP, TOP_C}

-- The parameter's name, and whether it is visible.
unfoldable pub parameter_in : Around → Spelling
parameter_in (around_start ids cds) = []
parameter_in (in_body h mds s) = s.parameter
parameter_in (around_let y K) = parameter_in K
parameter_in (argument x m K) = parameter_in K
parameter_in (first_async K) = parameter_in K
parameter_in (second_async e K) = parameter_in K
parameter_in (in_update x f K) = parameter_in K
parameter_in (in_let y e K) = parameter_in K
parameter_in (in_cast t K) = parameter_in K
parameter_in (in_fork e₁ e₂ K) = parameter_in K
parameter_in (in_lock x K) = parameter_in K

unfoldable pub visible_in : Around → Bool
visible_in (around_start ids cds) = false
visible_in (in_body h mds s) = true
visible_in (around_let y K) = visible_in K
visible_in (argument x m K) = visible_in K
visible_in (first_async K) = visible_in K
visible_in (second_async e K) = visible_in K
visible_in (in_update x f K) = visible_in K
visible_in (in_let y e K) = visible_in K && not (visible_in K && same_spelling y (parameter_in K))
visible_in (in_cast t K) = visible_in K
visible_in (in_fork e₁ e₂ K) = visible_in K
visible_in (in_lock x K) = visible_in K

abbrev pub scope_by : Bool → Spelling → Scope
scope_by true p = some p
scope_by false p = none

abbrev pub scope_in : Around → Scope
scope_in K = scope_by (visible_in K) (parameter_in K)

-- A closer: the point of the table, and what it keeps.
abbrev pub closer_of : ℕ → Bool → ℕ
closer_of d v = CLOSERS + d + POINTS * cond v 1 0

-- What a let of a name keeps.
abbrev pub let_keeps : Spelling → Around → Bool
let_keeps y K = visible_in K && not (visible_in K && same_spelling y (parameter_in K))

unfoldable pub closers_in : Around → List ℕ
closers_in (around_start ids cds) = []
closers_in (in_body h mds s) = closer_of PUSH_BODY false ∷ []
closers_in (around_let y K) = closer_of PUSH_LET (let_keeps y K) ∷ closers_in K
closers_in (argument x m K) = closer_of PUSH_CALL (visible_in K) ∷ closers_in K
closers_in (first_async K) = closer_of PUSH_FIRST (visible_in K) ∷ closers_in K
closers_in (second_async e K) = closer_of PUSH_SECOND (visible_in K) ∷ closers_in K
closers_in (in_update x f K) = closers_in K
closers_in (in_let y e K) = closers_in K
closers_in (in_cast t K) = closers_in K
closers_in (in_fork e₁ e₂ K) = closers_in K
closers_in (in_lock x K) = closers_in K

-- Roles, newest first: of the declarations before, of an interface so far, of a class so far.
abbrev pub outer : List Id → List Cd → List ℕ
outer ids cds = reverse_aux (roles_all roles_cd cds) (reverse_aux (roles_all roles_id ids) [])

abbrev pub interface_so : List Id → List Msig → List ℕ
interface_so ids ms = reverse_aux (roles_all (roles_msig R_SIGNATURE) ms) (PLAIN ∷ R_DECLARED ∷ R_INTERFACE ∷ outer ids [])

abbrev pub heading_so : Heading → List ℕ
heading_so h = reverse_aux (roles_all roles_fd h.fds) (PLAIN ∷ R_TYPE ∷ PLAIN ∷ R_DECLARED ∷ R_CLASS ∷ outer h.ids h.cds)

abbrev pub class_so : Heading → List Md → List ℕ
class_so h mds = reverse_aux (roles_all roles_md mds) (heading_so h)

abbrev pub owner_so : Owner → List ℕ
owner_so (of_interface ids i ms) = R_SIGNATURE ∷ interface_so ids ms
owner_so (of_class h mds) = R_METHOD_NAME ∷ R_METHOD ∷ class_so h mds

-- Of what is before the expression at hand, and of the expression too.
unfoldable pub before : Around → List ℕ
before (around_start ids cds) = outer ids cds
before (in_body h mds s) = PLAIN ∷ reverse_aux (roles_msig R_METHOD_NAME s) (R_METHOD ∷ class_so h mds)
before (around_let y K) = PLAIN ∷ R_BINDER ∷ R_LET ∷ before K
before (argument x m K) = PLAIN ∷ R_METHOD_USED ∷ PLAIN ∷ bound R_CALL (scope_in K) x ∷ before K
before (first_async K) = PLAIN ∷ PLAIN ∷ PLAIN ∷ R_FORK ∷ before K
before (second_async e K) = PLAIN ∷ PLAIN ∷ PLAIN ∷ reverse_aux (roles (scope_in K) e) (PLAIN ∷ PLAIN ∷ PLAIN ∷ R_FORK ∷ before K)
before (in_update x f K) = PLAIN ∷ R_FIELD_USED ∷ PLAIN ∷ bound R_UPDATE (scope_in K) x ∷ before K
before (in_let y e K) = PLAIN ∷ reverse_aux (roles (scope_in K) e) (PLAIN ∷ R_BINDER ∷ R_LET ∷ before K)
before (in_cast t K) = PLAIN ∷ type_role t ∷ R_CAST ∷ before K
before (in_fork e₁ e₂ K) =
    PLAIN ∷
    PLAIN ∷
    PLAIN ∷
    reverse_aux (roles (scope_in K) e₂)
    (PLAIN ∷ PLAIN ∷ PLAIN ∷ reverse_aux (roles (scope_in K) e₁) (PLAIN ∷ PLAIN ∷ PLAIN ∷ R_FORK ∷ before K))
before (in_lock x K) = PLAIN ∷ PLAIN ∷ bound R_OPERAND (scope_in K) x ∷ PLAIN ∷ R_LOCK ∷ before K

abbrev pub done : E → Around → List ℕ
done e K = reverse_aux (roles (scope_in K) e) (before K)

-- How many tokens there are before the declaration at hand, or before the start.
unfoldable pub start_in : Around → ℕ
start_in (around_start ids cds) = length (outer ids cds)
start_in (in_body h mds s) = length (outer h.ids h.cds)
start_in (around_let y K) = start_in K
start_in (argument x m K) = start_in K
start_in (first_async K) = start_in K
start_in (second_async e K) = start_in K
start_in (in_update x f K) = start_in K
start_in (in_let y e K) = start_in K
start_in (in_cast t K) = start_in K
start_in (in_fork e₁ e₂ K) = start_in K
start_in (in_lock x K) = start_in K

-- A state in an expression, and one of a declaration.
abbrev pub inside : ℕ → Around → List ℕ → Flat
inside p K l = record { point = p; closers = closers_in K; parameter = parameter_in K; visible = visible_in K; roles = l; start = start_in K }

abbrev pub outside : ℕ → List ℕ → ℕ → Flat
outside p l s = record { point = p; closers = []; parameter = []; visible = false; roles = l; start = s }

-- From its parameter on a method's heading has one.
abbrev pub headed : ℕ → Spelling → List ℕ → ℕ → Flat
headed n p l s = record { point = n; closers = []; parameter = p; visible = true; roles = l; start = s }

abbrev pub in_interface : ℕ → List Id → List ℕ → Flat
in_interface p ids l = outside p l (length (outer ids []))

abbrev pub in_class : ℕ → Heading → List ℕ → Flat
in_class p h l = outside p l (length (outer h.ids h.cds))

abbrev pub in_heading : ℕ → Heading → Spelling → List ℕ → Flat
in_heading n h p l = headed n p l (length (outer h.ids h.cds))

-- In a signature, before its parameter and from it on: i tokens behind its name.
abbrev pub unsigned : ℕ → Owner → List ℕ → Flat
unsigned i (of_interface ids n ms) l = in_interface (4 + i) ids l
unsigned i (of_class h mds) l = in_class (24 + i) h l

abbrev pub signing : ℕ → Owner → Spelling → List ℕ → Flat
signing i (of_interface ids n ms) p l = in_interface (4 + i) ids l
signing i (of_class h mds) p l = in_heading (24 + i) h p l

unfoldable pub flatten : State → Flat
flatten (at_top ids) = in_interface TOP ids (outer ids [])
flatten (at_top_c ids cds) = outside TOP_C (outer ids cds) (length (outer ids cds))
flatten (at_iface_name ids) = in_interface 1 ids (R_INTERFACE ∷ outer ids [])
flatten (at_iface_body ids i) = in_interface 2 ids (R_DECLARED ∷ R_INTERFACE ∷ outer ids [])
flatten (at_sigs ids i ms) = in_interface 3 ids (interface_so ids ms)
flatten (at_ext_1 ids i) = in_interface 11 ids (PLAIN ∷ R_DECLARED ∷ R_INTERFACE ∷ outer ids [])
flatten (at_ext_comma ids i a) = in_interface 12 ids (R_TYPE ∷ PLAIN ∷ R_DECLARED ∷ R_INTERFACE ∷ outer ids [])
flatten (at_ext_2 ids i a) = in_interface 13 ids (PLAIN ∷ R_TYPE ∷ PLAIN ∷ R_DECLARED ∷ R_INTERFACE ∷ outer ids [])
flatten (at_sig_open o m) = unsigned 0 o (owner_so o)
flatten (at_sig_param o m) = unsigned 1 o (PLAIN ∷ owner_so o)
flatten (at_sig_colon o m p) = signing 2 o p (PLAIN ∷ PLAIN ∷ owner_so o)
flatten (at_sig_type o m p) = signing 3 o p (PLAIN ∷ PLAIN ∷ PLAIN ∷ owner_so o)
flatten (at_sig_close o m p t) = signing 4 o p (type_role t ∷ PLAIN ∷ PLAIN ∷ PLAIN ∷ owner_so o)
flatten (at_sig_colon2 o m p t) = signing 5 o p (PLAIN ∷ type_role t ∷ PLAIN ∷ PLAIN ∷ PLAIN ∷ owner_so o)
flatten (at_sig_result o m p t) = signing 6 o p (PLAIN ∷ PLAIN ∷ type_role t ∷ PLAIN ∷ PLAIN ∷ PLAIN ∷ owner_so o)
flatten (at_class_name ids cds) = outside 15 (R_CLASS ∷ outer ids cds) (length (outer ids cds))
flatten (at_class_impl ids cds c) = outside 16 (R_DECLARED ∷ R_CLASS ∷ outer ids cds) (length (outer ids cds))
flatten (at_class_type ids cds c) = outside 17 (PLAIN ∷ R_DECLARED ∷ R_CLASS ∷ outer ids cds) (length (outer ids cds))
flatten (at_class_open ids cds c i) = outside 18 (R_TYPE ∷ PLAIN ∷ R_DECLARED ∷ R_CLASS ∷ outer ids cds) (length (outer ids cds))
flatten (at_fields h) = in_class 19 h (heading_so h)
flatten (at_field_colon h f) = in_class 20 h (R_FIELD ∷ heading_so h)
flatten (at_field_type h f) = in_class 21 h (PLAIN ∷ R_FIELD ∷ heading_so h)
flatten (at_methods h mds) = in_class 22 h (class_so h mds)
flatten (at_def_name h mds) = in_class 23 h (R_METHOD ∷ class_so h mds)
flatten (at_def_brace h mds s) = in_heading 31 h s.parameter (reverse_aux (roles_msig R_METHOD_NAME s) (R_METHOD ∷ class_so h mds))
flatten (at_expr K) = inside EXPR K (before K)
flatten (at_ended e K) = inside ENDED K (done e K)
flatten (at_variable x K) = inside VARIABLE K (bound R_VARIABLE (scope_in K) x ∷ before K)
flatten (at_dot x K) = inside 34 K (PLAIN ∷ bound R_VARIABLE (scope_in K) x ∷ before K)
flatten (at_plus x K) = inside 36 K (PLAIN ∷ bound R_SUM (scope_in K) x ∷ before K)
flatten (at_member x f K) = inside MEMBER K (R_FIELD_USED ∷ PLAIN ∷ bound R_SELECT (scope_in K) x ∷ before K)
flatten (at_paren K) = inside 37 K (R_CAST ∷ before K)
flatten (at_paren_plus K) = inside 40 K (bound R_OPERAND (scope_in K) x_this ∷ R_CAST ∷ before K)
flatten (at_inside c K) = inside 38 K (bound R_OPERAND (scope_in K) (x_name c) ∷ R_CAST ∷ before K)
flatten (at_cast_close t K) = inside 39 K (type_role t ∷ R_CAST ∷ before K)
flatten (at_plus_in x K) = inside 41 K (PLAIN ∷ bound R_OPERAND (scope_in K) x ∷ R_SUM_IN ∷ before K)
flatten (at_sum_close x y K) =
    inside 42 K (bound R_OPERAND (scope_in K) y ∷ PLAIN ∷ bound R_OPERAND (scope_in K) x ∷ R_SUM_IN ∷ before K)
flatten (at_let_name K) = inside 43 K (R_LET ∷ before K)
flatten (at_let_eq y K) = inside 44 (around_let y K) (R_BINDER ∷ R_LET ∷ before K)
flatten (at_new_name K) = inside 45 K (R_NEW ∷ before K)
flatten (at_minus K) = inside 57 K (R_NEGATIVE ∷ before K)
flatten (at_fork_brace K) = inside 46 K (R_FORK ∷ before K)
flatten (at_fork_async K) = inside 47 K (PLAIN ∷ R_FORK ∷ before K)
flatten (at_fork_open K) = inside 48 K (PLAIN ∷ PLAIN ∷ R_FORK ∷ before K)
flatten (at_second_async e K) = inside 49 K (PLAIN ∷ done e (first_async K))
flatten (at_second_open e K) = inside 50 K (PLAIN ∷ PLAIN ∷ done e (first_async K))
flatten (at_second_shut e₁ e₂ K) = inside 51 K (PLAIN ∷ done e₂ (second_async e₁ K))
flatten (at_fork_semi e₁ e₂ K) = inside 52 K (PLAIN ∷ PLAIN ∷ done e₂ (second_async e₁ K))
flatten (at_lock_open K) = inside 53 K (R_LOCK ∷ before K)
flatten (at_lock_var K) = inside 54 K (PLAIN ∷ R_LOCK ∷ before K)
flatten (at_lock_close x K) = inside 55 K (bound R_OPERAND (scope_in K) x ∷ PLAIN ∷ R_LOCK ∷ before K)
flatten (at_lock_in x K) = inside 56 K (PLAIN ∷ bound R_OPERAND (scope_in K) x ∷ PLAIN ∷ R_LOCK ∷ before K)
