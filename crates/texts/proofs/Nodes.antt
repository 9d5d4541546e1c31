-- The nodes of a derivation's expressions in its file.
use mathlib.Core.Path.{◌≡◌, refl}
use mathlib.Core.List.Memᴰ
use mathlib.Core.List.{List, [], ◌∷◌, ◌++◌}
use mathlib.Core.Logic.{⊎_elim}
use mathlib.Core.Option.{none, some}
use Prim.Native.Nat.{ℕ, ◌+◌, ◌*◌, ◌<◌, ◌≤◌}
use native.Mathlib.Omega.{arith}
use lib.ListN.{length, length-append}
use Rattle.script.specs.declared.Section.TheVariants.{Methods as methods, Nodes as nodes}
use Rattle.script.specs.Lists.{◌∈◌, run}
use Rattle.script.specs.Section.{count_of, record_at, record_word}
use Rattle.script.specs.Reading.{kind_of}
use Rattle.grammar.specs.Grammar.{E, e_null, e_variable, e_select, e_update, e_call, e_let, e_new, e_cast, e_fork, e_lock, e_digits, e_minus, e_sum, e_sum_in, Md}
use Rattle.grammar.specs.Roles.{Scope, under}
use Rattle.grammar.specs.Files.{Numbering, nodes_in, node_words, sum_all, msig_words, mds_words, bodies_words}
use Rattle.texts.proofs.Held.{Held, held_front}
use Rattle.texts.proofs.Rows.{next_record}
use Rattle.texts.proofs.Forest.{Forest, no_tree, more_trees, node}

pub a_node : (e : E) → 0 < nodes_in e
unfolding nodes_in
a_node e_null = omega arith
a_node (e_variable x) = omega arith
a_node (e_select x f) = omega arith
a_node (e_update x f e) = omega arith
a_node (e_call x m e) = omega arith
a_node (e_let y e₁ e₂) = omega arith
a_node (e_new t) = omega arith
a_node (e_cast t e) = omega arith
a_node (e_fork e₁ e₂ e₃) = omega arith
a_node (e_lock x e) = omega arith
a_node (e_digits d) = omega arith
a_node (e_minus d) = omega arith
a_node (e_sum x y) = omega arith
a_node (e_sum_in x y) = omega arith

module _ (k : Numbering) where
  -- Four words to a node.
  pub length_nodes : (c : Scope) (n : ℕ) (e : E) → length (node_words k c n e) ≡ 4 * nodes_in e
  unfolding nodes_in node_words
  length_nodes c n e_null = refl
  length_nodes c n (e_variable x) = refl
  length_nodes c n (e_select x f) = refl
  length_nodes c n (e_update x f e) = omega (arith, length_nodes c (n + 1) e)
  length_nodes c n (e_call x m e) = omega (arith, length_nodes c (n + 1) e)
  length_nodes c n (e_let y e₁ e₂) =
      simp length-append (omega (arith, length_nodes c (n + 1) e₁, length_nodes (under y c) (n + 1 + nodes_in e₁) e₂))
  length_nodes c n (e_new t) = refl
  length_nodes c n (e_cast t e) = omega (arith, length_nodes c (n + 1) e)
  length_nodes c n (e_fork e₁ e₂ e₃) =
      simp
      length-append
      (omega (arith, length_nodes c (n + 1) e₁, length_nodes c (n + 1 + nodes_in e₁) e₂, length_nodes c (n + 1 + nodes_in e₁ + nodes_in e₂) e₃))
  length_nodes c n (e_lock x e) = omega (arith, length_nodes c (n + 1) e)
  length_nodes c n (e_digits d) = refl
  length_nodes c n (e_minus d) = refl
  length_nodes c n (e_sum x y) = refl
  length_nodes c n (e_sum_in x y) = refl

  module _ (s : List ℕ) where
    -- An expression and, behind its words, those of others.
    followed :
        (c : Scope) (n : ℕ) (e : E) {size : ℕ} {roots : List ℕ} (ws : List ℕ)
        → Held s (record_at s nodes n) (node_words k c n e ++ ws)
        → (Held s (record_at s nodes n) (node_words k c n e) → Forest s n (nodes_in e) (n ∷ []))
        → (Held s (record_at s nodes (n + nodes_in e)) ws → Forest s (n + nodes_in e) size roots)
        → Forest s n (nodes_in e + size) (n ∷ roots)
    followed c n e ws h first others =
        more_trees s
        (first (held_front s (record_at s nodes n) (node_words k c n e) ws h))
        (others (next_record s nodes n (nodes_in e) (node_words k c n e) ws (omega (arith, length_nodes c n e)) h))

    -- An expression's node is used once if each of its parts is.
    expression : (c : Scope) (n : ℕ) (e : E) → n + nodes_in e ≤ count_of s nodes → Held s (record_at s nodes n) (node_words k c n e) → Forest s n (nodes_in e) (n ∷ [])
    unfolding kind_of nodes_in node_words
    expression c n e_null fits h = node s n 0 0 0 0 0 [] h refl refl refl (λ r. no_tree s)
    expression c n (e_variable x) fits h = node s n 0 1 _ 0 0 [] h tt refl refl (λ r. no_tree s)
    expression c n (e_select x f) fits h = node s n 0 2 _ _ 0 [] h tt tt refl (λ r. no_tree s)
    expression c n (e_update x f e) fits h = node s n (nodes_in e) 3 _ _ (n + 1) _ h tt tt (omega (arith, a_node e)) (expression c (n + 1) e (omega arith))
    expression c n (e_call x m e) fits h = node s n (nodes_in e) 4 _ _ (n + 1) _ h tt tt (omega (arith, a_node e)) (expression c (n + 1) e (omega arith))
    expression c n (e_let y e₁ e₂) fits h =
        node s n (nodes_in e₁ + nodes_in e₂) 5 _ (n + 1) (n + 1 + nodes_in e₁) _ h
        (omega arith)
        (omega (arith, a_node e₁))
        (omega (arith, a_node e₂))
        (λ r. followed c (n + 1) e₁ _ r (expression c (n + 1) e₁ (omega arith)) (expression (under y c) (n + 1 + nodes_in e₁) e₂ (omega arith)))
    expression c n (e_new t) fits h = node s n 0 6 _ 0 0 [] h tt refl refl (λ r. no_tree s)
    expression c n (e_cast t e) fits h = node s n (nodes_in e) 7 _ (n + 1) 0 _ h tt (omega (arith, a_node e)) refl (expression c (n + 1) e (omega arith))
    expression c n (e_fork e₁ e₂ e₃) fits h =
        node s n (nodes_in e₁ + (nodes_in e₂ + nodes_in e₃)) 8 (n + 1) (n + 1 + nodes_in e₁) (n + 1 + nodes_in e₁ + nodes_in e₂) _ h
        (omega (arith, a_node e₁))
        (omega (arith, a_node e₂))
        (omega (arith, a_node e₃))
        (λ r.
        followed c (n + 1) e₁ _ r (expression c (n + 1) e₁ (omega arith)) λ q.
        followed c (n + 1 + nodes_in e₁) e₂ _ q (expression c (n + 1 + nodes_in e₁) e₂ (omega arith))
        (expression c (n + 1 + nodes_in e₁ + nodes_in e₂) e₃ (omega arith)))
    expression c n (e_lock x e) fits h = node s n (nodes_in e) 9 _ (n + 1) 0 _ h tt (omega (arith, a_node e)) refl (expression c (n + 1) e (omega arith))
    expression c n (e_digits d) fits h = node s n 0 10 _ _ 0 [] h tt tt refl (λ r. no_tree s)
    expression c n (e_minus d) fits h = node s n 0 10 _ _ 0 [] h tt tt refl (λ r. no_tree s)
    expression c n (e_sum x y) fits h = node s n 0 11 _ _ 0 [] h tt tt refl (λ r. no_tree s)
    expression c n (e_sum_in x y) fits h = node s n 0 11 _ _ 0 [] h tt tt refl (λ r. no_tree s)

-- The nodes of methods' bodies, one behind the other from n on.
abbrev pub all_nodes : List Md → ℕ
all_nodes l = sum_all (λ m. nodes_in m.body) l

unfoldable pub body_nodes : ℕ → List Md → List ℕ
body_nodes n [] = []
body_nodes n (m ∷ l) = n ∷ body_nodes (n + nodes_in m.body) l

pub body_within : (n : ℕ) (l : List Md) (x : ℕ) → x ∈ body_nodes n l → x < n + all_nodes l
unfolding body_nodes sum_all
body_within n [] x i = absurd (Memᴰ.not-nil i)
body_within n (m ∷ l) x i =
    ⊎_elim
    (λ (e : x ≡ n). omega (arith, a_node m.body))
    (λ (j : x ∈ body_nodes (n + nodes_in m.body) l). omega (arith, body_within (n + nodes_in m.body) l x j))
    (Memᴰ.cases_cons i)

module _ (k : Numbering) where
  pub length_methods : (n : ℕ) (l : List Md) → length (mds_words k n l) ≡ 4 * length l
  unfolding mds_words
  length_methods n [] = refl
  length_methods n (m ∷ l) = omega (arith, length_methods (n + nodes_in m.body) l)

  pub length_bodies : (n : ℕ) (l : List Md) → length (bodies_words k n l) ≡ 4 * all_nodes l
  unfolding bodies_words sum_all
  length_bodies n [] = refl
  length_bodies n (m ∷ l) =
      simp length-append (omega (arith, length_nodes k (some m.msig.parameter) n m.body, length_bodies (n + nodes_in m.body) l))

  module _ (s : List ℕ) where
    bodies : (n : ℕ) (l : List Md) → n + all_nodes l ≤ count_of s nodes → Held s (record_at s nodes n) (bodies_words k n l) → Forest s n (all_nodes l) (body_nodes n l)
    unfolding bodies_words sum_all body_nodes
    bodies n [] fits h = no_tree s
    bodies n (m ∷ l) fits h =
        let c = some m.msig.parameter in
        followed k s c n m.body _ h (expression k s c n m.body (omega arith)) (bodies (n + nodes_in m.body) l (omega arith))

    -- The start, and behind it the bodies.
    pub all_nodes_lem :
        (e : E) (l : List Md)
        → nodes_in e + all_nodes l ≤ count_of s nodes
        → Held s (record_at s nodes 0) (node_words k none 0 e ++ bodies_words k (nodes_in e) l)
        → Forest s 0 (nodes_in e + all_nodes l) (0 ∷ body_nodes (nodes_in e) l)
    all_nodes_lem e l fits h =
        let z : 0 + nodes_in e ≡ nodes_in e = omega arith in
        followed k s none 0 e _ h (expression k s none 0 e (omega arith)) (rw z (bodies (nodes_in e) l fits))

    -- The methods' records name the bodies' nodes.
    pub method_bodies : (i n : ℕ) (l : List Md) → Held s (record_at s methods i) (mds_words k n l) → run (λ j. record_word s methods j 3) i (length l) ≡ body_nodes n l
    unfolding mds_words body_nodes run record_word
    method_bodies i n [] h = refl
    method_bodies i n (m ∷ l) h =
        let w = msig_words k m.msig ++ (n ∷ []) in
        let e : record_word s methods i 3 ≡ n = h.word 3 (omega arith) in
        let rest = method_bodies (i + 1) (n + nodes_in m.body) l (next_record s methods i 1 w (mds_words k (n + nodes_in m.body) l) refl h) in
        rw (e, rest)
