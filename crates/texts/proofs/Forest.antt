-- Nodes that stand in a file one after the other as expressions do: a node, then its parts, each used once.
use mathlib.Core.Path.{◌≡◌, refl, ◌∙◌}
use mathlib.Core.Bool.{cond}
use mathlib.Core.List.{List, [], ◌∷◌, ◌++◌, append_assoc}
use mathlib.Core.Logic.{⊎_elim}
use Prim.Native.Nat.{ℕ, zero, suc, ◌+◌, ◌<◌, ◌≤◌}
use native.Mathlib.Omega.{arith}
use native.Mathlib.Nat.{eq-or-lt_of_le}
use lib.Dec.{ltb}
use borrow.Author.Tests.{eq-eqb, ne_eqb, lt-ltb, le-ltb}
use Rattle.script.specs.declared.Section.TheVariants.{Nodes as nodes}
use Rattle.script.specs.Lists.{count_in}
use Rattle.script.specs.Section.{record_at, record_word, node_word}
use Rattle.script.specs.Syntax.{parts}
use Rattle.script.specs.Reading.{kind_of, shape_of, node_of, view_at}
use Rattle.script.specs.Questions.{parts_from}
use Rattle.script.specs.Statements.{WordIs, Words}
use Rattle.script.proofs.Lists.{lt_or_le, count_append}
use Rattle.texts.proofs.Held.{Held}
use Rattle.texts.proofs.Rows.{next_record}

-- 1 for a number below m, 0 for any other.
abbrev below : ℕ → ℕ → ℕ
below x m = cond (ltb x m) 1 0

is_below : (x m : ℕ) → x < m → below x m ≡ 1
is_below x m h = rw (lt-ltb x m h)

not_below : (x m : ℕ) → m ≤ x → below x m ≡ 0
not_below x m h = rw (le-ltb x m h)

-- A number's count grows by one where it stands.
count_one : (x p : ℕ) (l : List ℕ) → count_in x (p ∷ l) + below x p ≡ count_in x l + below x (p + 1)
unfolding count_in
count_one x p l =
    ⊎_elim
    (λ (h : x < p). rw (ne_eqb p x (λ e. omega arith), lt-ltb x p h, lt-ltb x (p + 1) (omega arith)))
    (λ (h : p ≤ x).
    ⊎_elim
    (λ (e : p ≡ x). rw (eq-eqb p x e, le-ltb x p h, lt-ltb x (p + 1) (omega arith)) (omega arith))
    (λ (g : p < x). rw (ne_eqb p x (λ e. omega arith), le-ltb x p h, le-ltb x (p + 1) (omega arith)))
    (eq-or-lt_of_le h))
    (lt_or_le x p)

module _ (s : List ℕ) where
  parts_append : (n a b : ℕ) → parts_from s n (a + b) ≡ parts_from s n a ++ parts_from s (n + a) b
  unfolding parts_from
  parts_append n zero b = let p : 0 + b ≡ b = omega arith in let q : n + 0 ≡ n = omega arith in rw (p, q)
  parts_append n (suc a) b =
      let p : suc a + b ≡ suc (a + b) = omega arith in
      let q : n + suc a ≡ n + 1 + a = omega arith in
      rw (p, q, parts_append (n + 1) a b, append_assoc)

  -- The nodes from n on, so many, are expressions one after the other, whose own nodes are these: the words of each node are as question 7 asks, and these and the
  -- parts of all are the nodes from n on, each once.
  pub record Forest (n size : ℕ) (roots : List ℕ) : Type 0 where
    pub words : (x : ℕ) → n ≤ x → x < n + size → Words s (WordIs s x) x
    pub once : (x : ℕ) → count_in x (roots ++ parts_from s n size) + below x n ≡ below x (n + size)

  pub no_tree : {n : ℕ} → Forest n 0 []
  unfolding count_in parts_from
  no_tree {n} = let e : n + 0 ≡ n = omega arith in record { words = λ x a b. absurd (omega arith); once = λ x. rw e (omega arith) }

  pub more_trees : {n a b : ℕ} {ps qs : List ℕ} → Forest n a ps → Forest (n + a) b qs → Forest n (a + b) (ps ++ qs)
  more_trees {n} {a} {b} {ps} {qs} f g =
      let e : n + (a + b) ≡ n + a + b = omega arith in
      record {
        words = λ x l u. ⊎_elim (λ (h : x < n + a). f.words x l h) (λ (h : n + a ≤ x). g.words x h (omega arith)) (lt_or_le x (n + a));
        once = λ x. rw (e, parts_append n a b) (simp count_append (omega (arith, simp count_append at (f.once x), simp count_append at (g.once x))));
      }

  -- A node and, behind it, its parts.
  tree : {n size : ℕ} → Words s (WordIs s n) n → Forest (n + 1) size (parts (view_at s n)) → Forest n (suc size) (n ∷ [])
  unfolding parts_from
  tree {n} {size} w f =
      let e : n + suc size ≡ n + 1 + size = omega arith in
      record {
        words = λ x l u. ⊎_elim (λ (h : n ≡ x). rw h at w) (λ (h : n < x). f.words x (omega arith) (omega arith)) (eq-or-lt_of_le l);
        once = λ x. rw e (count_one x n (parts (view_at s n) ++ parts_from s (n + 1) size) ∙ f.once x);
      }

  -- A node of four words, and behind them the words of its parts.
  pub node :
      (n size k a b c : ℕ) (rest : List ℕ)
      → Held s (record_at s nodes n) (k ∷ a ∷ b ∷ c ∷ rest)
      → WordIs s n (shape_of (kind_of k)).0 a
      → WordIs s n (shape_of (kind_of k)).1 b
      → WordIs s n (shape_of (kind_of k)).2 c
      → (Held s (record_at s nodes (n + 1)) rest → Forest (n + 1) size (parts (node_of (kind_of k) a b c)))
      → Forest n (suc size) (n ∷ [])
  unfolding record_word view_at
  node n size k a b c rest h x y z f =
      let k_is : node_word s n 0 ≡ k = h.word 0 (omega arith) in
      let a_is : node_word s n 1 ≡ a = h.word 1 (omega arith) in
      let b_is : node_word s n 2 ≡ b = h.word 2 (omega arith) in
      let c_is : node_word s n 3 ≡ c = h.word 3 (omega arith) in
      tree
      (record { a_is = rw (k_is, a_is) x; b_is = rw (k_is, b_is) y; c_is = rw (k_is, c_is) z })
      (rw (k_is, a_is, b_is, c_is) (f (next_record s nodes n 1 (k ∷ a ∷ b ∷ c ∷ []) rest refl h)))

  -- If the nodes of a file are the start and other expressions, the nodes of those and the parts are all nodes but 0, each once.
  pub used : {size : ℕ} {roots : List ℕ} → Forest 0 size (0 ∷ roots) → (x : ℕ) → x < size
      → (x ≡ 0 → count_in x (roots ++ parts_from s 0 size) ≡ 0) × (0 < x → count_in x (roots ++ parts_from s 0 size) ≡ 1)
  used {size} {roots} f x h =
      let e : count_in x (0 ∷ (roots ++ parts_from s 0 size)) + below x 0 ≡ below x (0 + size) = f.once x in
      let o = count_one x 0 (roots ++ parts_from s 0 size) in
      let a = is_below x (0 + size) (omega arith) in
      (λ z. omega (arith, is_below x (0 + 1) (omega arith)), λ p. omega (arith, not_below x (0 + 1) (omega arith)))
