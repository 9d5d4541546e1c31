-- The items of a derivation: what the passes over a text leave of each token, when the text is derived.
use Rattle.std.specs.Prelude.{ℕ, Bool, true, false, List, [], ◌∷◌, ◌++◌}
use Rattle.std.proofs.Math.Option.{none, some}
use Rattle.grammar.specs.Tokens.{Spelling, same_spelling, decimal}
use Rattle.grammar.specs.Grammar.{X, x_this, x_name, T, t_unit, t_int, t_name, E, e_null, e_variable, e_select, e_update, e_call, e_let, e_new, e_cast}
use Rattle.grammar.specs.Grammar.{e_fork, e_lock, e_digits, e_minus, e_sum, e_sum_in, Msig, Id, id_list, id_join, Fd, Md, Cd, Derivation}
use Rattle.grammar.specs.Roles.{PLAIN, R_INTERFACE, R_CLASS, R_METHOD, R_SIGNATURE, R_FIELD, R_DECLARED, R_TYPE, R_METHOD_NAME, R_BINDER, R_FIELD_USED}
use Rattle.grammar.specs.Roles.{R_METHOD_USED, R_OPERAND, R_NULL, R_VARIABLE, R_SELECT, R_UPDATE, R_CALL, R_LET, R_NEW, R_CAST, R_FORK, R_LOCK, R_INTEGER}
use Rattle.grammar.specs.Roles.{R_SUM, R_SUM_IN, R_NEGATIVE, Scope, under, bound, type_role}
use Rattle.grammar.specs.Files.{Numbering, rank_in}
use Rattle.rows.specs.Rows.{Item}

abbrev pub item : ℕ → ℕ → ℕ → Item
item r v a = record { role = r; value = v; amount = a }

abbrev pub plain_item : Item
plain_item = item PLAIN 0 0

-- Names of the four sorts.
abbrev pub method_item : Numbering → ℕ → Spelling → Item
method_item k r m = item r (rank_in k.method_names m) 0

abbrev pub field_item : Numbering → ℕ → Spelling → Item
field_item k r f = item r (rank_in k.field_names f) 0

abbrev pub name_item : Numbering → ℕ → Spelling → Item
name_item k r c = item r (rank_in k.type_names c) 0

abbrev pub type_item : Numbering → T → Item
type_item k t_unit = item (type_role t_unit) 0 0
type_item k t_int = item (type_role t_int) 0 0
type_item k (t_name c) = name_item k R_TYPE c

abbrev pub value_if : Bool → ℕ → ℕ
value_if true n = 0
value_if false n = n

-- A variable has a number of its own unless it is `this` or the parameter.
abbrev pub variable_value : Numbering → Scope → X → ℕ
variable_value k c x_this = 0
variable_value k none (x_name y) = rank_in k.other_names y
variable_value k (some p) (x_name y) = value_if (same_spelling y p) (rank_in k.other_names y)

abbrev pub variable_item : Numbering → ℕ → Scope → X → Item
variable_item k r c x = item (bound r c x) (variable_value k c x) 0

unfoldable pub items : Numbering → Scope → E → List Item
items k c e_null = item R_NULL 0 0 ∷ []
items k c (e_variable x) = variable_item k R_VARIABLE c x ∷ []
items k c (e_select x f) = variable_item k R_SELECT c x ∷ plain_item ∷ field_item k R_FIELD_USED f ∷ []
items k c (e_update x f e) = variable_item k R_UPDATE c x ∷ plain_item ∷ field_item k R_FIELD_USED f ∷ plain_item ∷ items k c e
items k c (e_call x m e) = variable_item k R_CALL c x ∷ plain_item ∷ method_item k R_METHOD_USED m ∷ plain_item ∷ (items k c e ++ (plain_item ∷ []))
items k c (e_let y e₁ e₂) =
    item R_LET 0 0 ∷ item R_BINDER (rank_in k.other_names y) 0 ∷ plain_item ∷ (items k c e₁ ++ (plain_item ∷ items k (under y c) e₂))
items k c (e_new t) = item R_NEW 0 0 ∷ name_item k R_TYPE t ∷ []
items k c (e_cast t e) = item R_CAST 0 0 ∷ type_item k t ∷ plain_item ∷ items k c e
items k c (e_fork e₁ e₂ e₃) =
    item R_FORK 0 0 ∷
    plain_item ∷
    plain_item ∷
    plain_item ∷
    (items k c e₁ ++ (plain_item ∷ plain_item ∷ plain_item ∷ (items k c e₂ ++ (plain_item ∷ plain_item ∷ plain_item ∷ items k c e₃))))
items k c (e_lock x e) = item R_LOCK 0 0 ∷ plain_item ∷ variable_item k R_OPERAND c x ∷ plain_item ∷ plain_item ∷ items k c e
items k c (e_digits d) = item R_INTEGER 0 (decimal d) ∷ []
items k c (e_minus d) = item R_NEGATIVE 0 0 ∷ item PLAIN 0 (decimal d) ∷ []
items k c (e_sum x y) = variable_item k R_SUM c x ∷ plain_item ∷ variable_item k R_OPERAND c y ∷ []
items k c (e_sum_in x y) = item R_SUM_IN 0 0 ∷ variable_item k R_OPERAND c x ∷ plain_item ∷ variable_item k R_OPERAND c y ∷ plain_item ∷ []

abbrev pub items_msig : Numbering → ℕ → Msig → List Item
items_msig k r s =
    method_item k r s.method ∷
    plain_item ∷
    plain_item ∷
    plain_item ∷
    type_item k s.takes ∷
    plain_item ∷
    plain_item ∷
    type_item k s.gives ∷
    []

unfoldable pub items_all : {A : Type 0} → (A → List Item) → List A → List Item
items_all f [] = []
items_all f (a ∷ l) = f a ++ items_all f l

unfoldable pub items_id : Numbering → Id → List Item
items_id k (id_list i ms) =
    item R_INTERFACE 0 0 ∷ name_item k R_DECLARED i ∷ plain_item ∷ (items_all (items_msig k R_SIGNATURE) ms ++ (plain_item ∷ []))
items_id k (id_join i a b) =
    item R_INTERFACE 0 0 ∷ name_item k R_DECLARED i ∷ plain_item ∷ name_item k R_TYPE a ∷ plain_item ∷ name_item k R_TYPE b ∷ []

abbrev pub items_fd : Numbering → Fd → List Item
items_fd k f = field_item k R_FIELD f.field ∷ plain_item ∷ type_item k f.holds ∷ []

unfoldable pub items_md : Numbering → Md → List Item
items_md k m =
    item R_METHOD 0 0 ∷
    (items_msig k R_METHOD_NAME m.msig ++ (plain_item ∷ (items k (some m.msig.parameter) m.body ++ (plain_item ∷ []))))

unfoldable pub items_cd : Numbering → Cd → List Item
items_cd k c =
    item R_CLASS 0 0 ∷
    name_item k R_DECLARED c.class ∷
    plain_item ∷
    name_item k R_TYPE c.implements ∷
    plain_item ∷
    (items_all (items_fd k) c.fds ++ (items_all (items_md k) c.mds ++ (plain_item ∷ [])))

unfoldable pub items_before : Numbering → Derivation → List Item
items_before k d = items_all (items_id k) d.ids ++ items_all (items_cd k) d.cds

unfoldable pub items_text : Numbering → Derivation → List Item
items_text k d = items_before k d ++ items k none d.start
