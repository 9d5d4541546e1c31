-- The list functions of `Rows` over the items of an expression.
use Prim.Native.Nat.{ℕ, suc, ◌+◌, ◌*◌, ◌/◌, ◌%◌, ◌<◌}
use mathlib.Core.Path.{◌≡◌, refl, sym, ap}
use mathlib.Core.Bool.{false}
use mathlib.Core.List.{List, [], ◌∷◌, ◌++◌, append_assoc}
use native.Mathlib.Omega.{arith}
use lib.ListN.{length, get_or, length-append}
use lib.Seq.{drop-append_seam}
use Rattle.grammar.specs.Grammar.{T, t_unit, t_int, t_name, E, e_null, e_variable, e_select, e_update, e_call, e_let, e_new, e_cast}
use Rattle.grammar.specs.Grammar.{e_fork, e_lock, e_digits, e_minus, e_sum, e_sum_in}
use Rattle.grammar.specs.Roles.{R_OPERAND, R_VARIABLE, R_SELECT, R_UPDATE, R_CALL, R_SUM, Scope, under, binding_by, BINDING}
use Rattle.grammar.specs.Files.{Numbering, nodes_in}
use Rattle.rows.specs.Rows.{Item, node_item, node_count, sizes_of, hop, arity_of}
use Rattle.rows.specs.Items.{plain_item, items, type_item}

-- A role's number without its variable's binding, and the binding.
pub base : (r b : ℕ) → r < BINDING → (r + BINDING * b) % BINDING ≡ r
base r b h = omega (arith, h)

pub binding : (r b : ℕ) → r < BINDING → (r + BINDING * b) / BINDING ≡ b
binding r b h = omega (arith, h)

-- A type begins no node.
pub type_inner : (k : Numbering) (t : T) → node_item (type_item k t) ≡ false
type_inner k t_unit = refl
type_inner k t_int = refl
type_inner k (t_name c) = refl

-- How many nodes begin among items.
pub node_count_lem : (k : Numbering) (c : Scope) (e : E) (l : List Item) → node_count (items k c e ++ l) ≡ nodes_in e + node_count l
unfolding items node_count nodes_in
node_count_lem k c e_null l = omega arith
node_count_lem k c (e_variable x) l = rw (base R_VARIABLE (binding_by c x) (omega arith)) (omega arith)
node_count_lem k c (e_select x f) l = rw (base R_SELECT (binding_by c x) (omega arith)) (omega arith)
node_count_lem k c (e_update x f e) l = rw (base R_UPDATE (binding_by c x) (omega arith)) (omega (arith, node_count_lem k c e l))
node_count_lem k c (e_call x m e) l =
    rw (base R_CALL (binding_by c x) (omega arith), append_assoc (items k c e) (plain_item ∷ []) l) (omega (arith, node_count_lem k c e (plain_item ∷ l)))
node_count_lem k c (e_let y e₁ e₂) l =
    rw (append_assoc (items k c e₁) (plain_item ∷ items k (under y c) e₂) l)
    (omega (arith, node_count_lem k c e₁ (plain_item ∷ (items k (under y c) e₂ ++ l)), node_count_lem k (under y c) e₂ l))
node_count_lem k c (e_new t) l = omega arith
node_count_lem k c (e_cast t e) l = rw (type_inner k t) (omega (arith, node_count_lem k c e l))
node_count_lem k c (e_fork e₁ e₂ e₃) l =
    rw (
      append_assoc (items k c e₁) (plain_item ∷ plain_item ∷ plain_item ∷ (items k c e₂ ++ (plain_item ∷ plain_item ∷ plain_item ∷ items k c e₃))) l,
      append_assoc (items k c e₂) (plain_item ∷ plain_item ∷ plain_item ∷ items k c e₃) l,
    )
    (omega (
      arith,
      node_count_lem k c e₁ (plain_item ∷ plain_item ∷ plain_item ∷ (items k c e₂ ++ (plain_item ∷ plain_item ∷ plain_item ∷ (items k c e₃ ++ l)))),
      node_count_lem k c e₂ (plain_item ∷ plain_item ∷ plain_item ∷ (items k c e₃ ++ l)),
      node_count_lem k c e₃ l,
    ))
node_count_lem k c (e_lock x e) l = rw (base R_OPERAND (binding_by c x) (omega arith)) (omega (arith, node_count_lem k c e l))
node_count_lem k c (e_digits d) l = omega arith
node_count_lem k c (e_minus d) l = omega arith
node_count_lem k c (e_sum x y) l = rw (base R_SUM (binding_by c x) (omega arith), base R_OPERAND (binding_by c y) (omega arith)) (omega arith)
node_count_lem k c (e_sum_in x y) l =
    rw (base R_OPERAND (binding_by c x) (omega arith), base R_OPERAND (binding_by c y) (omega arith)) (omega arith)

-- For each node of an expression, how many nodes its own expression has.
unfoldable pub sizes : E → List ℕ
unfolding nodes_in
sizes e_null = 1 ∷ []
sizes (e_variable x) = 1 ∷ []
sizes (e_select x f) = 1 ∷ []
sizes (e_update x f e) = suc (nodes_in e) ∷ sizes e
sizes (e_call x m e) = suc (nodes_in e) ∷ sizes e
sizes (e_let y e₁ e₂) = suc (nodes_in e₁ + nodes_in e₂) ∷ (sizes e₁ ++ sizes e₂)
sizes (e_new c) = 1 ∷ []
sizes (e_cast t e) = suc (nodes_in e) ∷ sizes e
sizes (e_fork e₁ e₂ e₃) = suc (nodes_in e₁ + (nodes_in e₂ + nodes_in e₃)) ∷ (sizes e₁ ++ (sizes e₂ ++ sizes e₃))
sizes (e_lock x e) = suc (nodes_in e) ∷ sizes e
sizes (e_digits d) = 1 ∷ []
sizes (e_minus d) = 1 ∷ []
sizes (e_sum x y) = 1 ∷ []
sizes (e_sum_in x y) = 1 ∷ []

sizes_first : (e : E) (l : List ℕ) → get_or (sizes e ++ l) 0 0 ≡ nodes_in e
unfolding sizes nodes_in
sizes_first e_null l = refl
sizes_first (e_variable x) l = refl
sizes_first (e_select x f) l = refl
sizes_first (e_update x f e) l = refl
sizes_first (e_call x m e) l = refl
sizes_first (e_let y e₁ e₂) l = refl
sizes_first (e_new c) l = refl
sizes_first (e_cast t e) l = refl
sizes_first (e_fork e₁ e₂ e₃) l = refl
sizes_first (e_lock x e) l = refl
sizes_first (e_digits d) l = refl
sizes_first (e_minus d) l = refl
sizes_first (e_sum x y) l = refl
sizes_first (e_sum_in x y) l = refl

sizes_length : (e : E) → length (sizes e) ≡ nodes_in e
unfolding sizes nodes_in
sizes_length e_null = refl
sizes_length (e_variable x) = refl
sizes_length (e_select x f) = refl
sizes_length (e_update x f e) = omega (arith, sizes_length e)
sizes_length (e_call x m e) = omega (arith, sizes_length e)
sizes_length (e_let y e₁ e₂) = rw (length-append (sizes e₁) (sizes e₂)) (omega (arith, sizes_length e₁, sizes_length e₂))
sizes_length (e_new c) = refl
sizes_length (e_cast t e) = omega (arith, sizes_length e)
sizes_length (e_fork e₁ e₂ e₃) =
    rw (length-append (sizes e₁) (sizes e₂ ++ sizes e₃), length-append (sizes e₂) (sizes e₃))
    (omega (arith, sizes_length e₁, sizes_length e₂, sizes_length e₃))
sizes_length (e_lock x e) = omega (arith, sizes_length e)
sizes_length (e_digits d) = refl
sizes_length (e_minus d) = refl
sizes_length (e_sum x y) = refl
sizes_length (e_sum_in x y) = refl

-- Over one expression's nodes.
pub hopped : (n : ℕ) (e : E) (l : List ℕ) → hop (suc n) (sizes e ++ l) ≡ nodes_in e + hop n l
unfolding hop
hopped n e l = rw (sizes_first e l, sym (sizes_length e), drop-append_seam (sizes e) l) refl

pub hop_none : (l : List ℕ) → hop 0 l ≡ 0
unfolding hop
hop_none l = refl

-- The sizes of the nodes among items.
pub items_sizes : (k : Numbering) (c : Scope) (e : E) (l : List Item) → sizes_of (items k c e ++ l) ≡ sizes e ++ sizes_of l
unfolding items sizes_of sizes arity_of
items_sizes k c e_null l = rw (hop_none (sizes_of l)) refl
items_sizes k c (e_variable x) l = rw (base R_VARIABLE (binding_by c x) (omega arith), hop_none (sizes_of l)) refl
items_sizes k c (e_select x f) l = rw (base R_SELECT (binding_by c x) (omega arith), hop_none (sizes_of l)) refl
items_sizes k c (e_update x f e) l =
    rw (base R_UPDATE (binding_by c x) (omega arith), items_sizes k c e l, hopped 0 e (sizes_of l), hop_none (sizes_of l)) (ap (λ n. suc n ∷ (sizes e ++ sizes_of l)) (omega arith))
items_sizes k c (e_call x m e) l =
    rw (
      base R_CALL (binding_by c x) (omega arith),
      append_assoc (items k c e) (plain_item ∷ []) l,
      items_sizes k c e (plain_item ∷ l),
      hopped 0 e (sizes_of l),
      hop_none (sizes_of l),
    )
    (ap (λ n. suc n ∷ (sizes e ++ sizes_of l)) (omega arith))
items_sizes k c (e_let y e₁ e₂) l =
    rw (
      append_assoc (items k c e₁) (plain_item ∷ items k (under y c) e₂) l,
      items_sizes k c e₁ (plain_item ∷ (items k (under y c) e₂ ++ l)),
      items_sizes k (under y c) e₂ l,
      append_assoc (sizes e₁) (sizes e₂) (sizes_of l),
      hopped 1 e₁ (sizes e₂ ++ sizes_of l),
      hopped 0 e₂ (sizes_of l),
      hop_none (sizes_of l),
    )
    (ap (λ n. suc n ∷ (sizes e₁ ++ (sizes e₂ ++ sizes_of l))) (omega arith))
items_sizes k c (e_new t) l = rw (hop_none (sizes_of l)) refl
items_sizes k c (e_cast t e) l =
    rw (type_inner k t, items_sizes k c e l, hopped 0 e (sizes_of l), hop_none (sizes_of l)) (ap (λ n. suc n ∷ (sizes e ++ sizes_of l)) (omega arith))
items_sizes k c (e_fork e₁ e₂ e₃) l =
    rw (
      append_assoc (items k c e₁) (plain_item ∷ plain_item ∷ plain_item ∷ (items k c e₂ ++ (plain_item ∷ plain_item ∷ plain_item ∷ items k c e₃))) l,
      append_assoc (items k c e₂) (plain_item ∷ plain_item ∷ plain_item ∷ items k c e₃) l,
      items_sizes k c e₁ (plain_item ∷ plain_item ∷ plain_item ∷ (items k c e₂ ++ (plain_item ∷ plain_item ∷ plain_item ∷ (items k c e₃ ++ l)))),
      items_sizes k c e₂ (plain_item ∷ plain_item ∷ plain_item ∷ (items k c e₃ ++ l)),
      items_sizes k c e₃ l,
      append_assoc (sizes e₁) (sizes e₂ ++ sizes e₃) (sizes_of l),
      append_assoc (sizes e₂) (sizes e₃) (sizes_of l),
      hopped 2 e₁ (sizes e₂ ++ (sizes e₃ ++ sizes_of l)),
      hopped 1 e₂ (sizes e₃ ++ sizes_of l),
      hopped 0 e₃ (sizes_of l),
      hop_none (sizes_of l),
    )
    (ap (λ n. suc n ∷ (sizes e₁ ++ (sizes e₂ ++ (sizes e₃ ++ sizes_of l)))) (omega arith))
items_sizes k c (e_lock x e) l =
    rw (base R_OPERAND (binding_by c x) (omega arith), items_sizes k c e l, hopped 0 e (sizes_of l), hop_none (sizes_of l))
    (ap (λ n. suc n ∷ (sizes e ++ sizes_of l)) (omega arith))
items_sizes k c (e_digits d) l = rw (hop_none (sizes_of l)) refl
items_sizes k c (e_minus d) l = rw (hop_none (sizes_of l)) refl
items_sizes k c (e_sum x y) l = rw (base R_SUM (binding_by c x) (omega arith), base R_OPERAND (binding_by c y) (omega arith), hop_none (sizes_of l)) refl
items_sizes k c (e_sum_in x y) l = rw (base R_OPERAND (binding_by c x) (omega arith), base R_OPERAND (binding_by c y) (omega arith), hop_none (sizes_of l)) refl
