-- The expressions of a script: each is built from those of its parts, and what goes from parts to nodes holds of all.
use Prim.Native.Nat.{ℕ, zero, suc, ◌+◌, ◌-◌, ◌<◌, ◌≤◌}
use mathlib.Core.Path.{◌≡◌, refl, sym, ◌∙◌, ap, ap₂}
use mathlib.Core.List.Memᴰ
use mathlib.Core.List.{List, [], ◌∷◌}
use mathlib.Core.Logic.{⊎_elim}
use native.Mathlib.Omega.{arith}
use lib.ListN.{get_or}
use Rattle.script.specs.Lists.{◌∈◌}
use Rattle.script.specs.Section.{nodes, count_of, node_word}
use Rattle.script.specs.Syntax.{Point, Expr, null, update, call, bind, cast, fork, lock, Node, n_null, n_var, n_select, n_update, n_call, n_bind, n_new, n_cast, n_fork, n_lock, n_constant, n_add, parts, build, point_of}
use Rattle.script.specs.Reading.{Kind, null_kind, var_kind, select_kind, update_kind, call_kind, bind_kind, new_kind, cast_kind, fork_kind, lock_kind, constant_kind, add_kind, unknown_kind, kind_of, shape_of, node_of, view_at, last_exprs, expr_at}
use Rattle.script.specs.Statements.{Part, WordIs, WithinLayout}

-- The first, second and third part of a node are among its parts.
pub first : {p : Point} {l : List Point} → p ∈ p ∷ l
first = Memᴰ.head refl

pub second : {p q : Point} {l : List Point} → q ∈ p ∷ q ∷ l
second = Memᴰ.tail first

pub third : {p q r : Point} {l : List Point} → r ∈ p ∷ q ∷ r ∷ l
third = Memᴰ.tail second

-- What is built of a node depends only on what its parts are.
pub build_same : (n : Point) (f g : Point → Expr) (v : Node) → ((p : Point) → p ∈ parts v → f p ≡ g p) → build n f v ≡ build n g v
build_same n f g n_null h = refl
build_same n f g (n_var x) h = refl
build_same n f g (n_select x y) h = refl
build_same n f g (n_update x y p) h = ap (update n x y) (h p first)
build_same n f g (n_call x m p) h = ap (call n x m) (h p first)
build_same n f g (n_bind x p q) h = ap₂ (bind n x) (h p first) (h q second)
build_same n f g (n_new c) h = refl
build_same n f g (n_cast t p) h = ap (cast n t) (h p first)
build_same n f g (n_fork p q r) h = λ i. fork n (h p first i) (h q second i) (h r third i)
build_same n f g (n_lock x p) h = ap (lock n x) (h p first)
build_same n f g (n_constant z) h = refl
build_same n f g (n_add x y) h = refl

-- What is built of the node at n is the expression at n.
pub build_point : (n : Point) (f : Point → Expr) (v : Node) → point_of (build n f v) ≡ n
build_point n f n_null = refl
build_point n f (n_var x) = refl
build_point n f (n_select x g) = refl
build_point n f (n_update x g p) = refl
build_point n f (n_call x m p) = refl
build_point n f (n_bind x p q) = refl
build_point n f (n_new c) = refl
build_point n f (n_cast t p) = refl
build_point n f (n_fork p q r) = refl
build_point n f (n_lock x p) = refl
build_point n f (n_constant z) = refl
build_point n f (n_add x y) = refl

-- One case for each kind.
pub by_kind : (P : ℕ → Type 0) → P 0 → P 1 → P 2 → P 3 → P 4 → P 5 → P 6 → P 7 → P 8 → P 9 → P 10 → P 11 → ((k : ℕ) → P (suc (suc (suc (suc (suc (suc (suc (suc (suc (suc (suc (suc k))))))))))))) → (k : ℕ) → P k
by_kind P p0 p1 p2 p3 p4 p5 p6 p7 p8 p9 p10 p11 more zero = p0
by_kind P p0 p1 p2 p3 p4 p5 p6 p7 p8 p9 p10 p11 more (suc zero) = p1
by_kind P p0 p1 p2 p3 p4 p5 p6 p7 p8 p9 p10 p11 more (suc (suc zero)) = p2
by_kind P p0 p1 p2 p3 p4 p5 p6 p7 p8 p9 p10 p11 more (suc (suc (suc zero))) = p3
by_kind P p0 p1 p2 p3 p4 p5 p6 p7 p8 p9 p10 p11 more (suc (suc (suc (suc zero)))) = p4
by_kind P p0 p1 p2 p3 p4 p5 p6 p7 p8 p9 p10 p11 more (suc (suc (suc (suc (suc zero))))) = p5
by_kind P p0 p1 p2 p3 p4 p5 p6 p7 p8 p9 p10 p11 more (suc (suc (suc (suc (suc (suc zero)))))) = p6
by_kind P p0 p1 p2 p3 p4 p5 p6 p7 p8 p9 p10 p11 more (suc (suc (suc (suc (suc (suc (suc zero))))))) = p7
by_kind P p0 p1 p2 p3 p4 p5 p6 p7 p8 p9 p10 p11 more (suc (suc (suc (suc (suc (suc (suc (suc zero)))))))) = p8
by_kind P p0 p1 p2 p3 p4 p5 p6 p7 p8 p9 p10 p11 more (suc (suc (suc (suc (suc (suc (suc (suc (suc zero))))))))) = p9
by_kind P p0 p1 p2 p3 p4 p5 p6 p7 p8 p9 p10 p11 more (suc (suc (suc (suc (suc (suc (suc (suc (suc (suc zero)))))))))) = p10
by_kind P p0 p1 p2 p3 p4 p5 p6 p7 p8 p9 p10 p11 more (suc (suc (suc (suc (suc (suc (suc (suc (suc (suc (suc zero))))))))))) = p11
by_kind P p0 p1 p2 p3 p4 p5 p6 p7 p8 p9 p10 p11 more (suc (suc (suc (suc (suc (suc (suc (suc (suc (suc (suc (suc k)))))))))))) = more k

-- The number of a kind that has one, and that it has one.
abbrev pub number_of : Kind → ℕ
number_of null_kind = 0
number_of var_kind = 1
number_of select_kind = 2
number_of update_kind = 3
number_of call_kind = 4
number_of bind_kind = 5
number_of new_kind = 6
number_of cast_kind = 7
number_of fork_kind = 8
number_of lock_kind = 9
number_of constant_kind = 10
number_of add_kind = 11
number_of unknown_kind = 12

abbrev pub Known : Kind → Type 0
Known unknown_kind = ⊥
Known null_kind = Unit {0}
Known var_kind = Unit {0}
Known select_kind = Unit {0}
Known update_kind = Unit {0}
Known call_kind = Unit {0}
Known bind_kind = Unit {0}
Known new_kind = Unit {0}
Known cast_kind = Unit {0}
Known fork_kind = Unit {0}
Known lock_kind = Unit {0}
Known constant_kind = Unit {0}
Known add_kind = Unit {0}

-- A word that is read as a known kind is its number, and the number of a kind is read as that kind.
pub number_is : (w : ℕ) (k : Kind) → kind_of w ≡ k → Known k → w ≡ number_of k
unfolding kind_of
number_is w k e h = go w e
  where
    go : (j : ℕ) → kind_of j ≡ k → j ≡ number_of k
    go =
        by_kind
        (λ j. kind_of j ≡ k → j ≡ number_of k)
        (λ q. ap number_of q)
        (λ q. ap number_of q)
        (λ q. ap number_of q)
        (λ q. ap number_of q)
        (λ q. ap number_of q)
        (λ q. ap number_of q)
        (λ q. ap number_of q)
        (λ q. ap number_of q)
        (λ q. ap number_of q)
        (λ q. ap number_of q)
        (λ q. ap number_of q)
        (λ q. ap number_of q)
        (λ j q. absurd (rw (← q) at h))

pub kind_back : (k : Kind) → kind_of (number_of k) ≡ k
unfolding kind_of
kind_back null_kind = refl
kind_back var_kind = refl
kind_back select_kind = refl
kind_back update_kind = refl
kind_back call_kind = refl
kind_back bind_kind = refl
kind_back new_kind = refl
kind_back cast_kind = refl
kind_back fork_kind = refl
kind_back lock_kind = refl
kind_back constant_kind = refl
kind_back add_kind = refl
kind_back unknown_kind = refl

-- The same of a kind that code has read of the word w: that it is k, and that it is not.
pub word_of_kind : (w : ℕ) (r k : Kind) → r ≡ kind_of w → r ≡ k → Known k → w ≡ number_of k
word_of_kind w r k e q h = number_is w k (sym e ∙ q) h

pub kind_read : {v w : ℕ} {r k : Kind} → w ≡ v → r ≡ kind_of w → r ≡ k → kind_of v ≡ k
kind_read p e q = sym (e ∙ ap kind_of p) ∙ q

pub other_word : (w : ℕ) (r k : Kind) → r ≡ kind_of w → (r ≡ k → ⊥) → w ≡ number_of k → ⊥
other_word w r k e n q = n (e ∙ ap kind_of q ∙ kind_back k)

pub other_number : {v w : ℕ} {r : Kind} (k : Kind) → w ≡ v → r ≡ kind_of w → (r ≡ k → ⊥) → v ≡ number_of k → ⊥
other_number {v} {w} {r} k p e n q = other_word w r k e n (p ∙ q)

-- Kinds 1 to 11 are not null, and every other one is read as null.
pub only_null : (k a b c : ℕ) → (k ≡ 1 → ⊥) → (k ≡ 2 → ⊥) → (k ≡ 3 → ⊥) → (k ≡ 4 → ⊥) → (k ≡ 5 → ⊥) → (k ≡ 6 → ⊥) → (k ≡ 7 → ⊥) → (k ≡ 8 → ⊥)
    → (k ≡ 9 → ⊥) → (k ≡ 10 → ⊥) → (k ≡ 11 → ⊥) → node_of (kind_of k) a b c ≡ n_null
unfolding kind_of
only_null k a b c h1 h2 h3 h4 h5 h6 h7 h8 h9 h10 h11 = go k refl
  where
    go : (j : ℕ) → k ≡ j → node_of (kind_of j) a b c ≡ n_null
    go =
        by_kind
        (λ j. k ≡ j → node_of (kind_of j) a b c ≡ n_null)
        (λ q. refl)
        (λ q. absurd (h1 q))
        (λ q. absurd (h2 q))
        (λ q. absurd (h3 q))
        (λ q. absurd (h4 q))
        (λ q. absurd (h5 q))
        (λ q. absurd (h6 q))
        (λ q. absurd (h7 q))
        (λ q. absurd (h8 q))
        (λ q. absurd (h9 q))
        (λ q. absurd (h10 q))
        (λ q. absurd (h11 q))
        (λ j q. refl)

-- A node whose first word is k is of kind k.
abbrev pub node_by : List ℕ → Point → ℕ → Node
node_by s n k = node_of (kind_of k) (node_word s n 1) (node_word s n 2) (node_word s n 3)

pub view_by : (s : List ℕ) (n : Point) (k : ℕ) → node_word s n 0 ≡ k → view_at s n ≡ node_by s n k
unfolding view_at
view_by s n k e = rw e

-- The same by its kind.
abbrev pub node_as : List ℕ → Point → Kind → Node
node_as s n k = node_of k (node_word s n 1) (node_word s n 2) (node_word s n 3)

pub view_as : (s : List ℕ) (n : Point) (k : Kind) → kind_of (node_word s n 0) ≡ k → view_at s n ≡ node_as s n k
unfolding view_at
view_as s n k e = rw e

module _ (s : List ℕ) where
  -- The table of the last j + k nodes ends in that of the last k.
  last_at : (j k : ℕ) → get_or (last_exprs s (j + k)) j (null 0) ≡ get_or (last_exprs s k) 0 (null 0)
  unfolding last_exprs
  last_at zero k = let e : 0 + k ≡ k = omega arith in rw e
  last_at (suc j) k = let e : suc j + k ≡ suc (j + k) = omega arith in rw e (last_at j k)

  -- A node finds its parts in the table of the nodes after it.
  part_at : (n p : Point) → Part s n p → get_or (last_exprs s (count_of s nodes - suc n)) (p - suc n) (null 0) ≡ expr_at s p
  unfolding expr_at
  part_at n p h =
      let e : count_of s nodes - suc n ≡ p - suc n + (count_of s nodes - p) = omega arith in
      rw e (last_at (p - suc n) (count_of s nodes - p))

  -- A node's expression is built from those of its parts.
  pub expr_at_lem : (n : Point) → n < count_of s nodes → ((p : Point) → p ∈ parts (view_at s n) → Part s n p) → expr_at s n ≡ build n (expr_at s) (view_at s n)
  unfolding expr_at last_exprs
  expr_at_lem n h later =
      let y : count_of s nodes - n ≡ suc (count_of s nodes - suc n) = omega arith in
      let z : count_of s nodes - suc (count_of s nodes - suc n) ≡ n = omega arith in
      rw (y, z) (build_same n _ (expr_at s) (view_at s n) (λ p m. part_at n p (later p m)))

  -- What question 7 asks of a node's words it asks of its parts.
  all_none : {n : Point} (p : Point) → p ∈ [] → Part s n p
  all_none p m = absurd (Memᴰ.not-nil m)

  all_more : {n a : Point} {l : List Point} → Part s n a → ((p : Point) → p ∈ l → Part s n p) → (p : Point) → p ∈ a ∷ l → Part s n p
  all_more {a = a} {l = l} x f p m = ⊎_elim (λ (e : p ≡ a). rw e x) (λ (k : p ∈ l). f p k) (Memᴰ.cases_cons m)

  part_words : (n : Point) (k : Kind) (a b c : ℕ) → WordIs s n (shape_of k).0 a → WordIs s n (shape_of k).1 b → WordIs s n (shape_of k).2 c → (p : Point) → p ∈ parts (node_of k a b c) → Part s n p
  part_words n null_kind a b c x y z = all_none
  part_words n var_kind a b c x y z = all_none
  part_words n select_kind a b c x y z = all_none
  part_words n update_kind a b c x y z = all_more z all_none
  part_words n call_kind a b c x y z = all_more z all_none
  part_words n bind_kind a b c x y z = all_more y (all_more z all_none)
  part_words n new_kind a b c x y z = all_none
  part_words n cast_kind a b c x y z = all_more y all_none
  part_words n fork_kind a b c x y z = all_more x (all_more y (all_more z all_none))
  part_words n lock_kind a b c x y z = all_more y all_none
  part_words n constant_kind a b c x y z = all_none
  part_words n add_kind a b c x y z = all_none
  part_words n unknown_kind a b c x y z = all_none

  module _ (w : WithinLayout s) (n : Point) (h : n < count_of s nodes) where
    -- The parts of a node stand later, and its kind is known.
    pub in_order : (p : Point) → p ∈ parts (view_at s n) → Part s n p
    unfolding view_at
    in_order = let x = (w.nodes_are.1.0 n h).words in part_words n (kind_of (node_word s n 0)) _ _ _ x.a_is x.b_is x.c_is

    pub known : kind_of (node_word s n 0) ≡ unknown_kind → ⊥
    known e = let x = (w.nodes_are.1.0 n h).words.a_is in rw e at x

    -- By its first word, its expression and its parts.
    pub expr_by : (k : ℕ) → node_word s n 0 ≡ k → expr_at s n ≡ build n (expr_at s) (node_by s n k)
    expr_by k e = expr_at_lem n h in_order ∙ ap (build n (expr_at s)) (view_by s n k e)

    pub part_by : (k : ℕ) → node_word s n 0 ≡ k → (p : Point) → p ∈ parts (node_by s n k) → Part s n p
    part_by k e p m = in_order p (rw (view_by s n k e) m)

    -- By its kind, its expression and its parts.
    pub expr_as : (k : Kind) → kind_of (node_word s n 0) ≡ k → expr_at s n ≡ build n (expr_at s) (node_as s n k)
    expr_as k e = expr_at_lem n h in_order ∙ ap (build n (expr_at s)) (view_as s n k e)

    pub part_as : (k : Kind) → kind_of (node_word s n 0) ≡ k → (p : Point) → p ∈ parts (node_as s n k) → Part s n p
    part_as k e p m = in_order p (rw (view_as s n k e) m)

  -- What holds of a node whenever it holds of the node's parts holds of every node, since parts stand later.
  module _ (P : Point → Type 0)
      (in_order : (n : Point) → n < count_of s nodes → (p : Point) → p ∈ parts (view_at s n) → Part s n p)
      (from_parts : (n : Point) → n < count_of s nodes → ((p : Point) → p ∈ parts (view_at s n) → P p) → P n) where
    last_nodes : (k n : ℕ) → count_of s nodes ≤ n + k → n < count_of s nodes → P n
    last_nodes zero n last h = absurd (omega arith)
    last_nodes (suc k) n last h = from_parts n h (λ p m. let q = in_order n h p m in last_nodes k p (omega arith) q.there)

    pub every_node : (n : Point) → n < count_of s nodes → P n
    every_node n h = last_nodes (count_of s nodes) n (omega arith) h
