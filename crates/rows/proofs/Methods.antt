-- The rows of methods and of their bodies' nodes are the words of the derivation's.
use Prim.Native.Nat.{ℕ, suc, ◌+◌}
use mathlib.Core.Path.{◌≡◌, refl, sym, ap, ◌∙◌}
use mathlib.Core.Bool.{Bool, true, false}
use mathlib.Core.List.{List, [], ◌∷◌, ◌++◌, append_assoc}
use mathlib.Core.Option.{none, some}
use native.Mathlib.Omega.{arith}
use lib.ListN.{length}
use Rattle.grammar.specs.Grammar.{Msig, Id, id_list, id_join, Fd, Md, Cd}
use Rattle.grammar.specs.Roles.{R_CLASS, R_METHOD, R_SIGNATURE, R_METHOD_NAME, R_DECLARED, R_TYPE}
use Rattle.grammar.specs.Files.{Numbering, sum_all, joined, msig_words, nodes_in, node_words, mds_words, bodies_words}
use Rattle.rows.specs.Rows.{Item, node_item, node_count, one_added_if, method_row, method_rows, node_rows}
use Rattle.rows.specs.Items.{item, plain_item, items, name_item, items_all, items_msig, items_id, items_fd, items_md, items_cd}
use Rattle.rows.proofs.Expressions.{type_inner, node_count_lem}
use Rattle.rows.proofs.NodeRows.{type_word_lem, more, more_first, node_rows_lem}
use Rattle.rows.proofs.Lacking.{Lacks, lacks_all, lacks_high, lacks_plain, methods_skip}
use Rattle.rows.proofs.Declared.{is_method, md_rest, lacks_md_rest, lacks_fd}

-- Nodes counted over lists.
count_append : (a b : List Item) → node_count (a ++ b) ≡ node_count a + node_count b
unfolding node_count
count_append [] b = omega arith
count_append (i ∷ a) b = by_node (node_item i) (node_count a) (node_count b) (node_count (a ++ b)) (count_append a b)
  where
    by_node : (q : Bool) (x y z : ℕ) → z ≡ x + y → one_added_if q z ≡ one_added_if q x + y
    by_node true x y z h = omega (arith, h)
    by_node false x y z h = h

count_all : {A : Type 0} (f : A → List Item) (n : A → ℕ) → ((a : A) → node_count (f a) ≡ n a) → (l : List A) → node_count (items_all f l) ≡ sum_all n l
unfolding node_count items_all sum_all
count_all f n h [] = refl
count_all f n h (a ∷ l) = omega (arith, count_append (f a) (items_all f l), h a, count_all f n h l)

no_sum : {A : Type 0} (l : List A) → sum_all (λ a. 0) l ≡ 0
unfolding sum_all
no_sum [] = refl
no_sum (a ∷ l) = omega (arith, no_sum l)

count_msig : (k : Numbering) (r : ℕ) (s : Msig) → node_item (item r 0 0) ≡ false → node_count (items_msig k r s) ≡ 0
unfolding node_count
count_msig k r s h = rw (h, type_inner k s.takes, type_inner k s.gives) refl

count_id : (k : Numbering) (i : Id) → node_count (items_id k i) ≡ 0
unfolding node_count items_id
count_id k (id_list i ms) =
    omega (
      arith,
      count_append (items_all (items_msig k R_SIGNATURE) ms) (plain_item ∷ []),
      count_all (items_msig k R_SIGNATURE) (λ s. 0) (λ s. count_msig k R_SIGNATURE s refl) ms,
      no_sum ms,
    )
count_id k (id_join i a b) = refl

count_fd : (k : Numbering) (f : Fd) → node_count (items_fd k f) ≡ 0
unfolding node_count
count_fd k f = rw (type_inner k f.holds) refl

-- A body's nodes are all that a method has.
count_md_rest : (k : Numbering) (m : Md) → node_count (md_rest k m) ≡ nodes_in m.body
unfolding node_count
count_md_rest k m =
    let body = items k (some m.msig.parameter) m.body in
    omega (
      arith,
      count_append (items_msig k R_METHOD_NAME m.msig) (plain_item ∷ (body ++ (plain_item ∷ []))),
      count_msig k R_METHOD_NAME m.msig refl,
      node_count_lem k (some m.msig.parameter) m.body (plain_item ∷ []),
    )

none_begins : (b : Bool) (n : ℕ) → one_added_if b n ≡ 0 → b ≡ false
none_begins true n h = absurd (omega (arith, h))
none_begins false n h = refl

-- One method.
method_row_lem :
    (k : Numbering) (n : ℕ) (m : Md) (l : List Item)
    → method_rows (length k.type_names) n (items_md k m ++ l)
    ≡ (msig_words k m.msig ++ (n ∷ [])) ++ method_rows (length k.type_names) (n + nodes_in m.body) l
unfolding method_rows method_row items_md
method_row_lem k n m l =
    rw (
      type_word_lem k m.msig.takes,
      type_word_lem k m.msig.gives,
      methods_skip (length k.type_names) n (md_rest k m) l (lacks_md_rest k m is_method),
      count_md_rest k m,
    )
    refl

-- Lists of methods, one behind another.
sum_append : {A : Type 0} (f : A → ℕ) (a b : List A) → sum_all f (a ++ b) ≡ sum_all f a + sum_all f b
unfolding sum_all
sum_append f [] b = omega arith
sum_append f (x ∷ a) b = omega (arith, sum_append f a b)

mds_append : (k : Numbering) (n : ℕ) (a b : List Md) → mds_words k n (a ++ b) ≡ mds_words k n a ++ mds_words k (n + sum_all (λ m. nodes_in m.body) a) b
unfolding mds_words sum_all
mds_append k n [] b = ap (λ q. mds_words k q b) (omega arith)
mds_append k n (m ∷ a) b =
    let w = msig_words k m.msig ++ (n ∷ []) in
    let q = n + nodes_in m.body in
    ap (λ v. w ++ v) (mds_append k q a b ∙ ap (λ p. mds_words k q a ++ mds_words k p b) (omega arith))
    ∙ sym (append_assoc w (mds_words k q a) (mds_words k (n + (nodes_in m.body + sum_all (λ m. nodes_in m.body) a)) b))

bodies_append :
    (k : Numbering) (n : ℕ) (a b : List Md)
    → bodies_words k n (a ++ b) ≡ bodies_words k n a ++ bodies_words k (n + sum_all (λ m. nodes_in m.body) a) b
unfolding bodies_words sum_all
bodies_append k n [] b = ap (λ q. bodies_words k q b) (omega arith)
bodies_append k n (m ∷ a) b =
    let w = node_words k (some m.msig.parameter) n m.body in
    let q = n + nodes_in m.body in
    ap (λ v. w ++ v) (bodies_append k q a b ∙ ap (λ p. bodies_words k q a ++ bodies_words k p b) (omega arith))
    ∙ sym (append_assoc w (bodies_words k q a) (bodies_words k (n + (nodes_in m.body + sum_all (λ m. nodes_in m.body) a)) b))

method_rows_lem :
    (k : Numbering) (n : ℕ) (ms : List Md) (l : List Item)
    → method_rows (length k.type_names) n (items_all (items_md k) ms ++ l)
    ≡ mds_words k n ms ++ method_rows (length k.type_names) (n + sum_all (λ m. nodes_in m.body) ms) l
unfolding items_all mds_words sum_all
method_rows_lem k n [] l = ap (λ q. method_rows (length k.type_names) q l) (omega arith)
method_rows_lem k n (m ∷ ms) l =
    let w = msig_words k m.msig ++ (n ∷ []) in
    let q = n + nodes_in m.body in
    rw (
      append_assoc (items_md k m) (items_all (items_md k) ms) l,
      append_assoc w (mds_words k q ms) (method_rows (length k.type_names) (n + (nodes_in m.body + sum_all (λ m. nodes_in m.body) ms)) l),
    )
    (method_row_lem k n m (items_all (items_md k) ms ++ l)
    ∙ ap (λ v. w ++ v) (method_rows_lem k q ms l ∙ ap (λ p. mds_words k q ms ++ method_rows (length k.type_names) p l) (omega arith)))

-- A class: what stands before its methods has neither method nor node.
abbrev cd_first : Numbering → Cd → List Item
cd_first k c =
    item R_CLASS 0 0 ∷
    name_item k R_DECLARED c.class ∷
    plain_item ∷
    name_item k R_TYPE c.implements ∷
    plain_item ∷
    items_all (items_fd k) c.fds

class_parts :
    (k : Numbering) (c : Cd) (l : List Item)
    → items_cd k c ++ l ≡ cd_first k c ++ (items_all (items_md k) c.mds ++ (plain_item ∷ l))
unfolding items_cd
class_parts k c l =
    rw (
      append_assoc (items_all (items_fd k) c.fds) (items_all (items_md k) c.mds ++ (plain_item ∷ [])) l,
      append_assoc (items_all (items_md k) c.mds) (plain_item ∷ []) l,
    )
    refl

lacks_first : (k : Numbering) (c : Cd) → Lacks R_METHOD (cd_first k c)
unfolding Lacks
lacks_first k c = (
  (λ e. omega (arith, e)),
  (
    lacks_high R_DECLARED is_method (omega arith),
    (
      lacks_plain is_method,
      (
        lacks_high R_TYPE is_method (omega arith),
        (lacks_plain is_method, lacks_all R_METHOD (items_fd k) (λ f. lacks_fd k f is_method (λ e. omega (arith, e))) c.fds),
      ),
    ),
  ),
)

count_first : (k : Numbering) (c : Cd) → node_count (cd_first k c) ≡ 0
unfolding node_count
count_first k c = omega (arith, count_all (items_fd k) (λ f. 0) (count_fd k) c.fds, no_sum c.fds)

class_methods :
    (k : Numbering) (n : ℕ) (c : Cd) (l : List Item)
    → method_rows (length k.type_names) n (items_cd k c ++ l)
    ≡ mds_words k n c.mds ++ method_rows (length k.type_names) (n + sum_all (λ m. nodes_in m.body) c.mds) l
unfolding method_rows
class_methods k n c l =
    rw (class_parts k c l)
    (methods_skip (length k.type_names) n (cd_first k c) (items_all (items_md k) c.mds ++ (plain_item ∷ l)) (lacks_first k c)
    ∙ ap (λ q. method_rows (length k.type_names) q (items_all (items_md k) c.mds ++ (plain_item ∷ l))) (omega (arith, count_first k c))
    ∙ method_rows_lem k n c.mds (plain_item ∷ l))

pub classes_methods :
    (k : Numbering) (n : ℕ) (cs : List Cd) (l : List Item)
    → method_rows (length k.type_names) n (items_all (items_cd k) cs ++ l)
    ≡ mds_words k n (joined (λ c. c.mds) cs) ++ method_rows (length k.type_names) (n + sum_all (λ m. nodes_in m.body) (joined (λ c. c.mds) cs)) l
unfolding items_all joined mds_words sum_all
classes_methods k n [] l = ap (λ q. method_rows (length k.type_names) q l) (omega arith)
classes_methods k n (c ∷ cs) l =
    let f : Md → ℕ = λ m. nodes_in m.body in
    let q = n + sum_all f c.mds in
    let ms = joined (λ c. c.mds) cs in
    rw (
      append_assoc (items_cd k c) (items_all (items_cd k) cs) l,
      mds_append k n c.mds ms,
      sum_append f c.mds ms,
      append_assoc (mds_words k n c.mds) (mds_words k q ms) (method_rows (length k.type_names) (n + (sum_all f c.mds + sum_all f ms)) l),
    )
    (class_methods k n c (items_all (items_cd k) cs ++ l)
    ∙ ap (λ v. mds_words k n c.mds ++ v)
    (classes_methods k q cs l ∙ ap (λ p. mds_words k q ms ++ method_rows (length k.type_names) p l) (omega arith)))

-- Nodes: over items that begin none,
pub nodes_skip :
    (types m n : ℕ) (a l : List Item)
    → node_count a ≡ 0
    → node_rows types (more a m) n (a ++ l) ≡ node_rows types m n l
unfolding node_rows node_count more
nodes_skip types m n [] l h = refl
nodes_skip types m n (i ∷ a) l h =
    let no : node_item i ≡ false = none_begins (node_item i) (node_count a) h in
    rw no (nodes_skip types m n a l (rw no at h))

-- over a method,
method_nodes :
    (k : Numbering) (q n : ℕ) (m : Md) (l : List Item)
    → node_rows (length k.type_names) (more (items_md k m) q) n (items_md k m ++ l)
    ≡ node_words k (some m.msig.parameter) n m.body ++ node_rows (length k.type_names) q (n + nodes_in m.body) l
unfolding items_md more node_rows
method_nodes k q n m l =
    let body = items k (some m.msig.parameter) m.body in
    let head = items_msig k R_METHOD_NAME m.msig in
    rw (
      append_assoc body (plain_item ∷ []) l,
      more_first body (plain_item ∷ []) q,
    )
    (nodes_skip (length k.type_names) (suc (more body (suc q))) n head (plain_item ∷ (body ++ (plain_item ∷ l))) (count_msig k R_METHOD_NAME m.msig refl)
    ∙ node_rows_lem k (some m.msig.parameter) m.body (suc q) n (plain_item ∷ l))

method_bodies :
    (k : Numbering) (q n : ℕ) (ms : List Md) (l : List Item)
    → node_rows (length k.type_names) (more (items_all (items_md k) ms) q) n (items_all (items_md k) ms ++ l)
    ≡ bodies_words k n ms ++ node_rows (length k.type_names) q (n + sum_all (λ m. nodes_in m.body) ms) l
unfolding items_all bodies_words sum_all more
method_bodies k q n [] l = ap (λ p. node_rows (length k.type_names) q p l) (omega arith)
method_bodies k q n (m ∷ ms) l =
    let w = node_words k (some m.msig.parameter) n m.body in
    let p = n + nodes_in m.body in
    rw (
      append_assoc (items_md k m) (items_all (items_md k) ms) l,
      more_first (items_md k m) (items_all (items_md k) ms) q,
      append_assoc w (bodies_words k p ms) (node_rows (length k.type_names) q (n + (nodes_in m.body + sum_all (λ m. nodes_in m.body) ms)) l),
    )
    (method_nodes k (more (items_all (items_md k) ms) q) n m (items_all (items_md k) ms ++ l)
    ∙ ap (λ v. w ++ v) (method_bodies k q p ms l ∙ ap (λ r. bodies_words k p ms ++ node_rows (length k.type_names) q r l) (omega arith)))

-- and over classes.
class_more : (k : Numbering) (c : Cd) (q : ℕ) → more (items_cd k c) q ≡ more (cd_first k c) (more (items_all (items_md k) c.mds) (suc q))
unfolding items_cd more
class_more k c q =
    rw (
      more_first (items_all (items_fd k) c.fds) (items_all (items_md k) c.mds ++ (plain_item ∷ [])) q,
      more_first (items_all (items_md k) c.mds) (plain_item ∷ []) q,
    )
    refl

class_bodies :
    (k : Numbering) (q n : ℕ) (c : Cd) (l : List Item)
    → node_rows (length k.type_names) (more (items_cd k c) q) n (items_cd k c ++ l)
    ≡ bodies_words k n c.mds ++ node_rows (length k.type_names) q (n + sum_all (λ m. nodes_in m.body) c.mds) l
unfolding node_rows
class_bodies k q n c l =
    rw (class_parts k c l, class_more k c q)
    (nodes_skip (length k.type_names) (more (items_all (items_md k) c.mds) (suc q)) n (cd_first k c) (items_all (items_md k) c.mds ++ (plain_item ∷ l)) (count_first k c)
    ∙ method_bodies k (suc q) n c.mds (plain_item ∷ l))

pub classes_bodies :
    (k : Numbering) (q n : ℕ) (cs : List Cd) (l : List Item)
    → node_rows (length k.type_names) (more (items_all (items_cd k) cs) q) n (items_all (items_cd k) cs ++ l)
    ≡ bodies_words k n (joined (λ c. c.mds) cs) ++ node_rows (length k.type_names) q (n + sum_all (λ m. nodes_in m.body) (joined (λ c. c.mds) cs)) l
unfolding items_all joined bodies_words sum_all more
classes_bodies k q n [] l = ap (λ p. node_rows (length k.type_names) q p l) (omega arith)
classes_bodies k q n (c ∷ cs) l =
    let f : Md → ℕ = λ m. nodes_in m.body in
    let p = n + sum_all f c.mds in
    let ms = joined (λ c. c.mds) cs in
    rw (
      append_assoc (items_cd k c) (items_all (items_cd k) cs) l,
      more_first (items_cd k c) (items_all (items_cd k) cs) q,
      bodies_append k n c.mds ms,
      sum_append f c.mds ms,
      append_assoc (bodies_words k n c.mds) (bodies_words k p ms) (node_rows (length k.type_names) q (n + (sum_all f c.mds + sum_all f ms)) l),
    )
    (class_bodies k (more (items_all (items_cd k) cs) q) n c (items_all (items_cd k) cs ++ l)
    ∙ ap (λ v. bodies_words k n c.mds ++ v)
    (classes_bodies k q p cs l ∙ ap (λ r. bodies_words k p ms ++ node_rows (length k.type_names) q r l) (omega arith)))

pub count_ids : (k : Numbering) (l : List Id) → node_count (items_all (items_id k) l) ≡ 0
count_ids k l = omega (arith, count_all (items_id k) (λ i. 0) (count_id k) l, no_sum l)
