-- The rows of nodes, over the items of an expression, are the expression's words.
use Prim.Native.Nat.{ℕ, suc, ◌+◌, ◌<◌}
use mathlib.Core.Path.{◌≡◌, refl, ap}
use mathlib.Core.Bool.{Bool, true, false}
use mathlib.Core.List.{List, [], ◌∷◌, ◌++◌, append_assoc}
use mathlib.Core.Option.{none, some}
use native.Mathlib.Omega.{arith}
use lib.ListN.{length}
use Rattle.grammar.specs.Tokens.{same_spelling}
use Rattle.grammar.specs.Grammar.{X, x_this, x_name, T, t_unit, t_int, t_name, E, e_null, e_variable, e_select, e_update, e_call, e_let, e_new, e_cast}
use Rattle.grammar.specs.Grammar.{e_fork, e_lock, e_digits, e_minus, e_sum, e_sum_in}
use Rattle.grammar.specs.Roles.{R_OPERAND, R_VARIABLE, R_SELECT, R_UPDATE, R_CALL, R_SUM, Scope, under, binding_by, BINDING, B_PARAMETER, B_OTHER}
use Rattle.grammar.specs.Files.{Numbering, nodes_in, node_words, variable_number, type_number_in}
use Rattle.rows.specs.Rows.{Item, sizes_of, node_row, node_rows, variable_word, type_word}
use Rattle.rows.specs.Items.{plain_item, items, variable_item, type_item}
use Rattle.rows.proofs.Expressions.{base, binding, type_inner, items_sizes, sizes, hopped, hop_none}

-- Words of variables and types.
pub variable_word_lem : (k : Numbering) (r : ℕ) (c : Scope) (x : X) → r < BINDING → variable_word (variable_item k r c x) ≡ variable_number k c x
variable_word_lem k r c x_this h = rw (binding r 0 h) refl
variable_word_lem k r none (x_name y) h = rw (binding r B_OTHER h) (omega arith)
variable_word_lem k r (some p) (x_name y) h = by_name (same_spelling y p) refl
  where
    by_name : (b : Bool) → same_spelling y p ≡ b → variable_word (variable_item k r (some p) (x_name y)) ≡ variable_number k (some p) (x_name y)
    by_name true e = rw (e, binding r B_PARAMETER h) refl
    by_name false e = rw (e, binding r B_OTHER h) (omega arith)

pub type_word_lem : (k : Numbering) (t : T) → type_word (length k.type_names) (type_item k t) ≡ type_number_in k t
type_word_lem k t_unit = refl
type_word_lem k t_int = omega arith
type_word_lem k (t_name c) = omega arith

-- Numbers that follow one another.
pub after : (n a : ℕ) → n + 1 + a ≡ n + suc a
after n a = omega arith

after_two : (n a b : ℕ) → n + 1 + a + b ≡ n + suc (a + b)
after_two n a b = omega arith

after_three : (n a b c : ℕ) → n + 1 + a + b + c ≡ n + suc (a + (b + c))
after_three n a b c = omega arith

none_more : (n : ℕ) → n + 0 ≡ n
none_more n = omega arith

-- How many items there are, those of a list first.
unfoldable pub more : List Item → ℕ → ℕ
more [] m = m
more (i ∷ l) m = suc (more l m)

pub more_first : (a b : List Item) (m : ℕ) → more (a ++ b) m ≡ more a (more b m)
unfolding more
more_first [] b m = refl
more_first (i ∷ a) b m = ap suc (more_first a b m)

pub node_rows_lem :
    (k : Numbering) (c : Scope) (e : E) (m n : ℕ) (l : List Item)
    → node_rows (length k.type_names) (more (items k c e) m) n (items k c e ++ l)
    ≡ node_words k c n e ++ node_rows (length k.type_names) m (n + nodes_in e) l
unfolding items node_rows node_row node_words nodes_in more sizes_of
node_rows_lem k c e_null m n l = refl
node_rows_lem k c (e_variable x) m n l = rw (base R_VARIABLE (binding_by c x) (omega arith), variable_word_lem k R_VARIABLE c x (omega arith)) refl
node_rows_lem k c (e_select x f) m n l = rw (base R_SELECT (binding_by c x) (omega arith), variable_word_lem k R_SELECT c x (omega arith)) refl
node_rows_lem k c (e_update x f e) m n l =
    rw (
      base R_UPDATE (binding_by c x) (omega arith),
      variable_word_lem k R_UPDATE c x (omega arith),
      node_rows_lem k c e m (n + 1) l,
      after n (nodes_in e),
    )
    refl
node_rows_lem k c (e_call x f e) m n l =
    rw (
      base R_CALL (binding_by c x) (omega arith),
      variable_word_lem k R_CALL c x (omega arith),
      append_assoc (items k c e) (plain_item ∷ []) l,
      more_first (items k c e) (plain_item ∷ []) m,
      node_rows_lem k c e (suc m) (n + 1) (plain_item ∷ l),
      after n (nodes_in e),
    )
    refl
node_rows_lem k c (e_let y e₁ e₂) m n l =
    let r₁ = plain_item ∷ items k (under y c) e₂ in
    rw (
      append_assoc (items k c e₁) r₁ l,
      items_sizes k c e₁ (r₁ ++ l),
      hopped 0 e₁ (sizes_of (r₁ ++ l)),
      hop_none (sizes_of (r₁ ++ l)),
      none_more (nodes_in e₁),
      more_first (items k c e₁) r₁ m,
      node_rows_lem k c e₁ (more r₁ m) (n + 1) (r₁ ++ l),
      node_rows_lem k (under y c) e₂ m (n + 1 + nodes_in e₁) l,
      append_assoc (node_words k c (n + 1) e₁) (node_words k (under y c) (n + 1 + nodes_in e₁) e₂) (node_rows (length k.type_names) m (n + suc (nodes_in e₁ + nodes_in e₂)) l),
      after_two n (nodes_in e₁) (nodes_in e₂),
    )
    (ap (λ w. 5 ∷ w ∷ (n + 1) ∷ (n + 1 + nodes_in e₁) ∷ (node_words k c (n + 1) e₁ ++ (node_words k (under y c) (n + 1 + nodes_in e₁) e₂ ++ node_rows (length k.type_names) m (n + suc (nodes_in e₁ + nodes_in e₂)) l))) (omega arith))
node_rows_lem k c (e_new t) m n l = rw (type_word_lem k (t_name t)) refl
node_rows_lem k c (e_cast t e) m n l = rw (type_inner k t, type_word_lem k t, node_rows_lem k c e m (n + 1) l, after n (nodes_in e)) refl
node_rows_lem k c (e_fork e₁ e₂ e₃) m n l =
    let r₂ = plain_item ∷ plain_item ∷ plain_item ∷ items k c e₃ in
    let r₁ = plain_item ∷ plain_item ∷ plain_item ∷ (items k c e₂ ++ r₂) in
    let n₂ = n + 1 + nodes_in e₁ in
    let n₃ = n + 1 + nodes_in e₁ + nodes_in e₂ in
    let w = node_rows (length k.type_names) m (n + suc (nodes_in e₁ + (nodes_in e₂ + nodes_in e₃))) l in
    rw (
      append_assoc (items k c e₁) r₁ l,
      append_assoc (items k c e₂) r₂ l,
      items_sizes k c e₁ (plain_item ∷ plain_item ∷ plain_item ∷ (items k c e₂ ++ (r₂ ++ l))),
      items_sizes k c e₂ (r₂ ++ l),
      hopped 0 e₁ (sizes e₂ ++ sizes_of (r₂ ++ l)),
      hopped 1 e₁ (sizes e₂ ++ sizes_of (r₂ ++ l)),
      hopped 0 e₂ (sizes_of (r₂ ++ l)),
      hop_none (sizes_of (r₂ ++ l)),
      hop_none (sizes e₂ ++ sizes_of (r₂ ++ l)),
      none_more (nodes_in e₁),
      none_more (nodes_in e₂),
      more_first (items k c e₁) r₁ m,
      more_first (items k c e₂) r₂ m,
      node_rows_lem k c e₁ (suc (suc (suc (more (items k c e₂) (more r₂ m))))) (n + 1) (plain_item ∷ plain_item ∷ plain_item ∷ (items k c e₂ ++ (r₂ ++ l))),
      node_rows_lem k c e₂ (more r₂ m) n₂ (r₂ ++ l),
      node_rows_lem k c e₃ m n₃ l,
      append_assoc (node_words k c (n + 1) e₁) (node_words k c n₂ e₂ ++ node_words k c n₃ e₃) w,
      append_assoc (node_words k c n₂ e₂) (node_words k c n₃ e₃) w,
      after_three n (nodes_in e₁) (nodes_in e₂) (nodes_in e₃),
    )
    (ap (λ q. 8 ∷ (n + 1) ∷ n₂ ∷ q ∷ (node_words k c (n + 1) e₁ ++ (node_words k c n₂ e₂ ++ (node_words k c n₃ e₃ ++ w)))) (omega arith))
node_rows_lem k c (e_lock x e) m n l =
    rw (
      base R_OPERAND (binding_by c x) (omega arith),
      variable_word_lem k R_OPERAND c x (omega arith),
      node_rows_lem k c e m (n + 1) l,
      after n (nodes_in e),
    )
    refl
node_rows_lem k c (e_digits d) m n l = refl
node_rows_lem k c (e_minus d) m n l = refl
node_rows_lem k c (e_sum x y) m n l =
    rw (
      base R_SUM (binding_by c x) (omega arith),
      base R_OPERAND (binding_by c y) (omega arith),
      variable_word_lem k R_SUM c x (omega arith),
      variable_word_lem k R_OPERAND c y (omega arith),
    )
    refl
node_rows_lem k c (e_sum_in x y) m n l =
    rw (
      base R_OPERAND (binding_by c x) (omega arith),
      base R_OPERAND (binding_by c y) (omega arith),
      variable_word_lem k R_OPERAND c x (omega arith),
      variable_word_lem k R_OPERAND c y (omega arith),
    )
    refl
