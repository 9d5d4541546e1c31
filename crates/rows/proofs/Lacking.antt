-- Items that a list function passes over.
use Prim.Native.Nat.{ℕ, ◌+◌, ◌*◌, ◌<◌, ◌≤◌}
use mathlib.Core.Path.{◌≡◌, refl, ap, ◌∙◌}
use mathlib.Core.Bool.{Bool, true, false}
use mathlib.Core.List.{List, [], ◌∷◌, ◌++◌, append_assoc}
use native.Mathlib.Omega.{arith}
use borrow.Author.Tests.{ne_eqb}
use Rattle.grammar.specs.Grammar.{T, t_unit, t_int, t_name, E, e_null, e_variable, e_select, e_update, e_call, e_let, e_new, e_cast}
use Rattle.grammar.specs.Grammar.{e_fork, e_lock, e_digits, e_minus, e_sum, e_sum_in}
use Rattle.grammar.specs.Roles.{R_INTERFACE, R_CLASS, R_METHOD, R_DECLARED, R_TYPE, R_BINDER, R_FIELD_USED, R_METHOD_USED, R_OPERAND, R_NULL, R_VARIABLE}
use Rattle.grammar.specs.Roles.{R_SELECT, R_UPDATE, R_CALL, R_LET, R_NEW, R_CAST, R_FORK, R_LOCK, R_INTEGER, R_SUM, R_SUM_IN, R_NEGATIVE, BINDING, Scope, under, binding_by}
use Rattle.grammar.specs.Files.{Numbering, words_all, sum_all}
use Rattle.rows.specs.Rows.{Item, rows_with, owned, method_rows, node_count, node_item, one_added_if}
use Rattle.rows.specs.Items.{plain_item, items, type_item, items_all}

-- No item of a list has the role r.
unfoldable pub Lacks : ℕ → List Item → Type 0
Lacks r [] = Unit {0}
Lacks r (i ∷ l) = (i.role ≡ r → ⊥) × Lacks r l

pub lacks_append : (r : ℕ) (a b : List Item) → Lacks r a → Lacks r b → Lacks r (a ++ b)
unfolding Lacks
lacks_append r [] b h g = g
lacks_append r (i ∷ a) b h g = (h.0, lacks_append r a b h.1 g)

pub lacks_all : {A : Type 0} (r : ℕ) (f : A → List Item) → ((a : A) → Lacks r (f a)) → (l : List A) → Lacks r (items_all f l)
unfolding Lacks items_all
lacks_all r f h [] = tt
lacks_all r f h (a ∷ l) = lacks_append r (f a) (items_all f l) (h a) (lacks_all r f h l)

-- Roles of declarations and of first tokens of records that are no nodes.
pub record Record (r : ℕ) : Type 0 where
  pub least : 0 < r
  pub most : r < R_DECLARED

pub lacks_type : (k : Numbering) (t : T) {r : ℕ} → Record r → (type_item k t).role ≡ r → ⊥
lacks_type k t_unit h e = omega (arith, h.most, e)
lacks_type k t_int h e = omega (arith, h.most, e)
lacks_type k (t_name c) h e = omega (arith, h.most, e)

pub lacks_plain : {r : ℕ} → Record r → 0 ≡ r → ⊥
lacks_plain h e = omega (arith, h.least, e)

-- A role above them, whatever its variable's binding.
pub lacks_high : (q : ℕ) {r : ℕ} → Record r → R_DECLARED ≤ q → q ≡ r → ⊥
lacks_high q h g e = omega (arith, h.most, g, e)

lacks_bound : (q b : ℕ) {r : ℕ} → Record r → R_DECLARED ≤ q → q + BINDING * b ≡ r → ⊥
lacks_bound q b h g e = omega (arith, h.most, g, e)

pub lacks_items : (k : Numbering) (c : Scope) (e : E) {r : ℕ} → Record r → Lacks r (items k c e)
unfolding Lacks items
lacks_items k c e_null h = (lacks_high R_NULL h (omega arith), tt)
lacks_items k c (e_variable x) h = (lacks_bound R_VARIABLE (binding_by c x) h (omega arith), tt)
lacks_items k c (e_select x f) h =
    (lacks_bound R_SELECT (binding_by c x) h (omega arith), (lacks_plain h, (lacks_high R_FIELD_USED h (omega arith), tt)))
lacks_items k c (e_update x f e) h = (
  lacks_bound R_UPDATE (binding_by c x) h (omega arith),
  (lacks_plain h, (lacks_high R_FIELD_USED h (omega arith), (lacks_plain h, lacks_items k c e h))),
)
lacks_items k c (e_call x m e) {r} h = (
  lacks_bound R_CALL (binding_by c x) h (omega arith),
  (
    lacks_plain h,
    (
      lacks_high R_METHOD_USED h (omega arith),
      (lacks_plain h, lacks_append r (items k c e) (plain_item ∷ []) (lacks_items k c e h) (lacks_plain h, tt)),
    ),
  ),
)
lacks_items k c (e_let y e₁ e₂) {r} h = (
  lacks_high R_LET h (omega arith),
  (
    lacks_high R_BINDER h (omega arith),
    (
      lacks_plain h,
      lacks_append r (items k c e₁) (plain_item ∷ items k (under y c) e₂) (lacks_items k c e₁ h) (lacks_plain h, lacks_items k (under y c) e₂ h),
    ),
  ),
)
lacks_items k c (e_new t) h = (lacks_high R_NEW h (omega arith), (lacks_high R_TYPE h (omega arith), tt))
lacks_items k c (e_cast t e) h = (lacks_high R_CAST h (omega arith), (lacks_type k t h, (lacks_plain h, lacks_items k c e h)))
lacks_items k c (e_fork e₁ e₂ e₃) {r} h = (
  lacks_high R_FORK h (omega arith),
  (
    lacks_plain h,
    (
      lacks_plain h,
      (
        lacks_plain h,
        lacks_append r (items k c e₁) (plain_item ∷ plain_item ∷ plain_item ∷ (items k c e₂ ++ (plain_item ∷ plain_item ∷ plain_item ∷ items k c e₃)))
            (lacks_items k c e₁ h) (
              lacks_plain h,
              (
                lacks_plain h,
                (
                  lacks_plain h,
                  lacks_append r (items k c e₂) (plain_item ∷ plain_item ∷ plain_item ∷ items k c e₃) (lacks_items k c e₂ h)
                      (lacks_plain h, (lacks_plain h, (lacks_plain h, lacks_items k c e₃ h))),
                ),
              ),
            ),
      ),
    ),
  ),
)
lacks_items k c (e_lock x e) h = (
  lacks_high R_LOCK h (omega arith),
  (
    lacks_plain h,
    (lacks_bound R_OPERAND (binding_by c x) h (omega arith), (lacks_plain h, (lacks_plain h, lacks_items k c e h))),
  ),
)
lacks_items k c (e_digits d) h = (lacks_high R_INTEGER h (omega arith), tt)
lacks_items k c (e_minus d) h = (lacks_high R_NEGATIVE h (omega arith), (lacks_plain h, tt))
lacks_items k c (e_sum x y) h =
    (lacks_bound R_SUM (binding_by c x) h (omega arith), (lacks_plain h, (lacks_bound R_OPERAND (binding_by c y) h (omega arith), tt)))
lacks_items k c (e_sum_in x y) h = (
  lacks_high R_SUM_IN h (omega arith),
  (
    lacks_bound R_OPERAND (binding_by c x) h (omega arith),
    (lacks_plain h, (lacks_bound R_OPERAND (binding_by c y) h (omega arith), (lacks_plain h, tt))),
  ),
)

-- Rows are made of nothing there.
pub rows_skip : (r : ℕ) (row : List Item → List ℕ) (a l : List Item) → Lacks r a → rows_with r row (a ++ l) ≡ rows_with r row l
unfolding Lacks rows_with
rows_skip r row [] l h = refl
rows_skip r row (i ∷ a) l h = rw (ne_eqb i.role r h.0) (rows_skip r row a l h.1)

-- Nothing is counted there,
pub owned_skip : (r : ℕ) (a l : List Item) → Lacks R_INTERFACE a → Lacks R_CLASS a → Lacks r a → owned r (a ++ l) ≡ owned r l
unfolding Lacks owned
owned_skip r [] l h g f = refl
owned_skip r (i ∷ a) l h g f =
    rw (ne_eqb i.role R_INTERFACE h.0, ne_eqb i.role R_CLASS g.0, ne_eqb i.role r f.0) (owned_skip r a l h.1 g.1 f.1)

-- and methods are numbered by the nodes passed over.
one_more : (b : Bool) (n m : ℕ) → one_added_if b n + m ≡ n + one_added_if b m
one_more true n m = omega arith
one_more false n m = omega arith

pub methods_skip : (types n : ℕ) (a l : List Item) → Lacks R_METHOD a → method_rows types n (a ++ l) ≡ method_rows types (n + node_count a) l
unfolding Lacks method_rows node_count
methods_skip types n [] l h = ap (λ q. method_rows types q l) (omega arith)
methods_skip types n (i ∷ a) l h =
    rw (ne_eqb i.role R_METHOD h.0)
    (methods_skip types (one_added_if (node_item i) n) a l h.1 ∙ ap (λ q. method_rows types q l) (one_more (node_item i) n (node_count a)))

-- Over the items of a list, one after another, where what follows has a property that the items of each have too.
pub rows_each :
    {A : Type 0} (P : List Item → Type 0) (r : ℕ) (row : List Item → List ℕ) (f : A → List Item) (w : A → List ℕ)
    → ((a : A) (l : List Item) → P l → P (f a ++ l))
    → ((a : A) (l : List Item) → P l → rows_with r row (f a ++ l) ≡ w a ++ rows_with r row l)
    → (bs : List A) (l : List Item)
    → P l
    → P (items_all f bs ++ l) × (rows_with r row (items_all f bs ++ l) ≡ words_all w bs ++ rows_with r row l)
unfolding items_all words_all
rows_each P r row f w h g [] l p = (p, refl)
rows_each P r row f w h g (a ∷ bs) l p =
    let q = rows_each P r row f w h g bs l p in
    rw (append_assoc (f a) (items_all f bs) l, append_assoc (w a) (words_all w bs) (rows_with r row l))
    (h a (items_all f bs ++ l) q.0, g a (items_all f bs ++ l) q.0 ∙ ap (λ v. w a ++ v) q.1)

pub owned_each :
    {A : Type 0} (r : ℕ) (f : A → List Item) (n : A → ℕ)
    → ((a : A) (l : List Item) → owned r (f a ++ l) ≡ n a + owned r l)
    → (bs : List A) (l : List Item)
    → owned r (items_all f bs ++ l) ≡ sum_all n bs + owned r l
unfolding items_all sum_all
owned_each r f n g [] l = omega arith
owned_each r f n g (a ∷ bs) l =
    rw (append_assoc (f a) (items_all f bs) l) (omega (arith, g a (items_all f bs ++ l), owned_each r f n g bs l))
