-- Free variables of nodes, as the code of `forks` goes through them.
use Prim.Native.Nat.{ℕ, ◌+◌, ◌*◌, ◌^◌, ◌<◌}
use mathlib.Core.Path.{◌≡◌, refl, sym, ◌∙◌}
use mathlib.Core.Bool.{Bool, true, false, ◌||◌}
use mathlib.Core.List.{List, [], ◌∷◌, ◌++◌}
use mathlib.Core.Logic.{◌⊎◌, ⊎_elim, inl, inr}
use mathlib.Core.Option.{none, some}
use native.Mathlib.Omega.{arith}
use lib.Bits.{bit_and, bit_or, bit_xor}
use lib.Dec.{eqb}
use lib.ListN.{length, get_or}
use borrow.Author.Tests.{eqb-true}
use Rattle.limits.specs.Limits.{NODES}
use Rattle.script.specs.declared.Section.TheVariants.{Nodes as nodes}
use Rattle.script.specs.Lists.{◌∈◌}
use Rattle.script.specs.Section.{count_of, node_word}
use Rattle.script.specs.Syntax.{Point, Expr, Node, n_null, n_var, n_select, n_update, n_call, n_bind, n_new, n_cast, n_fork, n_lock, n_constant, n_add, parts, build}
use Rattle.script.specs.declared.Kind.{Kind}
use Rattle.script.specs.declared.Kind.TheVariants.{Null, Variable, Select, Update, Call, Let, New, Cast, Fork, Lock, Constant, Sum, Unknown}
use Rattle.script.specs.Reading.{kind_of, node_of, view_at, expr_at}
use Rattle.script.specs.Statements.{WithinLayout}
use Rattle.script.proofs.Reading.{first, second, third, by_kind, view_by, node_as, view_as, expr_at_lem, in_order, expr_as, every_node}
use Rattle.script.proofs.Tests.{true_false}
use Rattle.typing.specs.Typing.{without, fv, is_in}
use Rattle.names.specs.Ranks.{slot_of, name_in, Names, RankOf, of_node}
use Rattle.names.specs.Filling.{names_kind}
use Rattle.names.proofs.KindLaws.{a_name}
use Rattle.names.proofs.SearchLaws.{rank_first}
use Rattle.masks.specs.Free.{SPAN, MaskOf, RankMask, FreeMask, mask_at, Along, Ahead, ForkMark}
use Rattle.masks.proofs.MaskLaws.{in_append, in_without, mask_none, mask_or, mask_without, mask_rank, masks_meet}
use Rattle.masks.proofs.MarkLaws.{mark_kept}

-- A node that is a fork has a fork's kind.
abbrev AFork : Node → Type 0
AFork n_null = ⊥
AFork (n_var x) = ⊥
AFork (n_select x f) = ⊥
AFork (n_update x f p) = ⊥
AFork (n_call x m p) = ⊥
AFork (n_bind x p q) = ⊥
AFork (n_new c) = ⊥
AFork (n_cast t p) = ⊥
AFork (n_fork p q r) = Unit {0}
AFork (n_lock x p) = ⊥
AFork (n_constant z) = ⊥
AFork (n_add x y) = ⊥

only_fork : (a b c k : ℕ) → AFork (node_of (kind_of k) a b c) → k ≡ 8
unfolding kind_of
only_fork a b c =
    by_kind (λ k. AFork (node_of (kind_of k) a b c) → k ≡ 8) absurd absurd absurd absurd absurd absurd absurd absurd (λ h. refl) absurd absurd absurd (λ k h. absurd h)

module _ (s : List ℕ) (n : ℕ) where
  pub fork_kind : (a b c : ℕ) → view_at s n ≡ n_fork a b c → node_word s n 0 ≡ 8
  unfolding view_at
  fork_kind a b c e = only_fork (node_word s n 1) (node_word s n 2) (node_word s n 3) (node_word s n 0) (rw e tt)

  pub part_of : (k : Kind) (p : ℕ) → kind_of (node_word s n 0) ≡ k → p ∈ parts (node_as s n k) → p ∈ parts (view_at s n)
  part_of k p e h = rw (view_as s n k e) h

  -- A node of a kind that names a variable at place j.
  pub naming : (k : Kind) (j : ℕ) → kind_of (node_word s n 0) ≡ k → j < names_kind k → n < count_of s nodes → Names s n j (node_word s n (1 + j))
  naming k j e l h = record { there = h; name = a_name s n j (node_word s n 0) (names_kind (kind_of (node_word s n 0))) refl refl (rw e l) }

  -- A fork names none.
  pub fork_nameless : (j : ℕ) → node_word s n 0 ≡ 8 → name_in j (view_at s n) ≡ none
  unfolding kind_of
  fork_nameless j e = rw (view_by s n 8 e)

  -- A node of these kinds has no free variable.
  abbrev pub Closed : Kind → Type 0
  Closed k = (f : Point → Expr) → fv (build n f (node_as s n k)) ≡ []

  pub closed_null : Closed Null
  unfolding fv
  closed_null f = refl

  pub closed_new : Closed New
  unfolding fv
  closed_new f = refl

  pub closed_constant : Closed Constant
  unfolding fv
  closed_constant f = refl

  pub closed_unknown : Closed Unknown
  unfolding fv
  closed_unknown f = refl

or_cases : (a b : Bool) → (a || b) ≡ true → (a ≡ true) ⊎ (b ≡ true)
or_cases true b e = inl refl
or_cases false b e = inr e

-- What holds of every variable that a node names holds of every free variable.
module _ (P : ℕ → Type 0) where
  abbrev All : List ℕ → Type 0
  All l = (x : ℕ) → is_in x l ≡ true → P x

  all_none : All []
  unfolding is_in
  all_none x e = absurd (true_false (sym e))

  all_cons : (y : ℕ) (l : List ℕ) → P y → All l → All (y ∷ l)
  unfolding is_in
  all_cons y l p f x e = ⊎_elim (λ q. rw (eqb-true y x q) at p) (f x) (or_cases (eqb y x) (is_in x l) e)

  all_append : (l m : List ℕ) → All l → All m → All (l ++ m)
  all_append l m f g x e = ⊎_elim (f x) (g x) (or_cases (is_in x l) (is_in x m) (sym (in_append x l m) ∙ e))

  all_without : (y : ℕ) (l : List ℕ) → All l → All (without y l)
  all_without y l f x e = f x (in_without y x l e)

  all_node : (n : Point) (f : Point → Expr) (v : Node) → ((j x : ℕ) → name_in j v ≡ some x → P x) → ((p : Point) → p ∈ parts v → All (fv (f p))) → All (fv (build n f v))
  unfolding fv
  all_node n f n_null u h = all_none
  all_node n f (n_var x) u h = all_cons x [] (u 0 x refl) all_none
  all_node n f (n_select x g) u h = all_cons x [] (u 0 x refl) all_none
  all_node n f (n_update x g p) u h = all_cons x (fv (f p)) (u 0 x refl) (h p first)
  all_node n f (n_call x m p) u h = all_cons x (fv (f p)) (u 0 x refl) (h p first)
  all_node n f (n_bind x p q) u h = all_append (fv (f p)) (without x (fv (f q))) (h p first) (all_without x (fv (f q)) (h q second))
  all_node n f (n_new c) u h = all_none
  all_node n f (n_cast t p) u h = h p first
  all_node n f (n_fork p q r) u h = all_append (fv (f p)) (fv (f q) ++ fv (f r)) (h p first) (all_append (fv (f q)) (fv (f r)) (h q second) (h r third))
  all_node n f (n_lock x p) u h = all_cons x (fv (f p)) (u 0 x refl) (h p first)
  all_node n f (n_constant z) u h = all_none
  all_node n f (n_add x y) u h = all_cons x (y ∷ []) (u 0 x refl) (all_cons y [] (u 1 y refl) all_none)

module _ (s : List ℕ) (layout : WithinLayout s) where
  -- Every free variable of an expression is named by a node, so it has a rank.
  pub free_ranked : (facts : List ℕ) (n : Point) → n < count_of s nodes → (x : ℕ) → is_in x (fv (expr_at s n)) ≡ true → (k : ℕ) × RankOf s facts x k
  free_ranked facts =
      every_node
      s
      (λ n. All (λ x. (k : ℕ) × RankOf s facts x k) (fv (expr_at s n)))
      (in_order s layout)
      (λ n h ih.
      rw (expr_at_lem s n h (in_order s layout n h))
      (all_node (λ x. (k : ℕ) × RankOf s facts x k) n (expr_at s) (view_at s n) (λ j x e. (get_or facts (slot_of n j) 0, of_node (record { there = h; name = e }))) ih))

  -- A part's mask is in the table.
  pub part_within : (masks : List ℕ) (n p : ℕ) → length masks ≡ NODES → n < count_of s nodes → p ∈ parts (view_at s n) → p < length masks
  part_within masks n p size h m = omega (arith, (in_order s layout n h p m).there, layout.counts_are.within nodes)

-- The mask of a node, from its variable's rank and the masks of its parts.
module _ (s facts masks : List ℕ) (start n : ℕ) (h : Ahead s facts masks start n) where
  part_free : (p m : ℕ) → p ∈ parts (view_at s n) → m ≡ get_or masks p 0 → MaskOf s facts start m (fv (expr_at s p))
  part_free p m i e = let q = in_order s h.layout n h.there p i in rw e (h.later p (omega (arith, q.later)) q.there)

  own_free : (own : ℕ) → Names s n 0 (node_word s n 1) → RankMask start (get_or facts (2 * n) 0) own → MaskOf s facts start own (node_word s n 1 ∷ [])
  own_free own q o = mask_rank s facts start h.count (node_word s n 1) (get_or facts (2 * n) 0) own h.ranked (rank_first q) o

  -- The mask of a node of kind k.
  mask_is : (k : Kind) (m : ℕ) → kind_of (node_word s n 0) ≡ k → MaskOf s facts start m (fv (build n (expr_at s) (node_as s n k))) → FreeMask s facts start n m
  mask_is k m e q = rw (expr_as s h.layout n h.there k e) q

  -- The slots of node n are in the table of facts.
  pub fact_within : 2 * n + 1 < length facts
  fact_within = omega (arith, h.there, h.layout.counts_are.within nodes, h.ranked.size)

  pub mask_var : (own : ℕ) → kind_of (node_word s n 0) ≡ Variable → RankMask start (get_or facts (2 * n) 0) own → FreeMask s facts start n own
  unfolding fv
  mask_var own k o = mask_is Variable own k (own_free own (naming s n Variable 0 k (omega arith) h.there) o)

  pub mask_select : (own : ℕ) → kind_of (node_word s n 0) ≡ Select → RankMask start (get_or facts (2 * n) 0) own → FreeMask s facts start n own
  unfolding fv
  mask_select own k o = mask_is Select own k (own_free own (naming s n Select 0 k (omega arith) h.there) o)

  pub mask_use : (p own m : ℕ) → Names s n 0 (node_word s n 1) → p ∈ parts (view_at s n) → RankMask start (get_or facts (2 * n) 0) own → m ≡ get_or masks p 0 → MaskOf s facts start (bit_or own m) (node_word s n 1 ∷ fv (expr_at s p))
  mask_use p own m q i o e = mask_or s facts start own m (node_word s n 1 ∷ []) (fv (expr_at s p)) (own_free own q o) (part_free p m i e)

  pub mask_update : (m : ℕ) → kind_of (node_word s n 0) ≡ Update → MaskOf s facts start m (node_word s n 1 ∷ fv (expr_at s (node_word s n 3))) → FreeMask s facts start n m
  unfolding fv
  mask_update m k q = mask_is Update m k q

  pub mask_call : (m : ℕ) → kind_of (node_word s n 0) ≡ Call → MaskOf s facts start m (node_word s n 1 ∷ fv (expr_at s (node_word s n 3))) → FreeMask s facts start n m
  unfolding fv
  mask_call m k q = mask_is Call m k q

  pub mask_lock : (m : ℕ) → kind_of (node_word s n 0) ≡ Lock → MaskOf s facts start m (node_word s n 1 ∷ fv (expr_at s (node_word s n 2))) → FreeMask s facts start n m
  unfolding fv
  mask_lock m k q = mask_is Lock m k q

  pub mask_let : (own a b : ℕ) → kind_of (node_word s n 0) ≡ Let → RankMask start (get_or facts (2 * n) 0) own → a ≡ get_or masks (node_word s n 2) 0 → b ≡ get_or masks (node_word s n 3) 0 → FreeMask s facts start n (bit_or a (bit_xor (bit_or b own) own))
  unfolding fv
  mask_let own a b k o ea eb =
      let p = part_free (node_word s n 2) a (part_of s n Let _ k first) ea in
      let q = part_free (node_word s n 3) b (part_of s n Let _ k second) eb in
      let w = own_free own (naming s n Let 0 k (omega arith) h.there) o in
      mask_is Let _ k (mask_or s facts start a _ (fv (expr_at s (node_word s n 2))) _ p (mask_without s facts start b own _ (fv (expr_at s (node_word s n 3))) q w))

  pub mask_fork : (a b c : ℕ) → kind_of (node_word s n 0) ≡ Fork → a ≡ get_or masks (node_word s n 1) 0 → b ≡ get_or masks (node_word s n 2) 0 → c ≡ get_or masks (node_word s n 3) 0 → FreeMask s facts start n (bit_or a (bit_or b c))
  unfolding fv
  mask_fork a b c k ea eb ec =
      let p = part_free (node_word s n 1) a (part_of s n Fork _ k first) ea in
      let q = part_free (node_word s n 2) b (part_of s n Fork _ k second) eb in
      let r = part_free (node_word s n 3) c (part_of s n Fork _ k third) ec in
      mask_is
      Fork
      _
      k
      (mask_or s facts start a _ (fv (expr_at s (node_word s n 1))) _ p (mask_or s facts start b c (fv (expr_at s (node_word s n 2))) (fv (expr_at s (node_word s n 3))) q r))

  pub mask_sum : (a b : ℕ) → kind_of (node_word s n 0) ≡ Sum → RankMask start (get_or facts (2 * n) 0) a → RankMask start (get_or facts (2 * n + 1) 0) b → FreeMask s facts start n (bit_or a b)
  unfolding fv
  mask_sum a b k o p =
      let x = own_free a (naming s n Sum 0 k (omega arith) h.there) o in
      let y = mask_rank s facts start h.count (node_word s n 2) (get_or facts (2 * n + 1) 0) b h.ranked (of_node (naming s n Sum 1 k (omega arith) h.there)) p in
      mask_is Sum _ k (mask_or s facts start a b (node_word s n 1 ∷ []) (node_word s n 2 ∷ []) x y)

  pub mask_cast : (m : ℕ) → kind_of (node_word s n 0) ≡ Cast → m ≡ get_or masks (node_word s n 2) 0 → FreeMask s facts start n m
  unfolding fv
  mask_cast m k e = mask_is Cast m k (part_free (node_word s n 2) m (part_of s n Cast _ k first) e)

  pub mask_rest : (k : Kind) → kind_of (node_word s n 0) ≡ k → Closed s n k → FreeMask s facts start n 0
  mask_rest k e c = rw (expr_as s h.layout n h.there k e, c (expr_at s)) (mask_none s facts start)

-- The mark of a node after one more span.
module _ (s masks : List ℕ) (n t : ℕ) where
  abbrev pub Marks : ℕ → Type 0
  Marks r = (facts : List ℕ) (start : ℕ) → Along (FreeMask s facts start) (mask_at masks) n (count_of s nodes) → ForkMark s facts start n t → ForkMark s facts (start + SPAN) n r

  pub mark_other : (node_word s n 0 ≡ 8 → ⊥) → Marks t
  mark_other n8 facts start masked mark a b c v = absurd (n8 (fork_kind s n a b c v))

  module _ (layout : WithinLayout s) (there : n < count_of s nodes) (a b : ℕ) (fork : node_word s n 0 ≡ 8)
      (a_is : a ≡ get_or masks (node_word s n 1) 0) (b_is : b ≡ get_or masks (node_word s n 2) 0) where
    words : (p q r : ℕ) → view_at s n ≡ n_fork p q r → (node_word s n 1 ≡ p) × (node_word s n 2 ≡ q)
    unfolding kind_of
    words p q r v = let e : n_fork (node_word s n 1) (node_word s n 2) (node_word s n 3) ≡ n_fork p q r = sym (view_by s n 8 fork) ∙ v in (cc, cc)

    async : (facts : List ℕ) (start p m : ℕ) → Along (FreeMask s facts start) (mask_at masks) n (count_of s nodes) → p ∈ parts (view_at s n) → m ≡ get_or masks p 0 → MaskOf s facts start m (fv (expr_at s p))
    async facts start p m masked i e = let w = in_order s layout n there p i in rw e (masked p (omega (arith, w.later)) w.there)

    pub mark_same : bit_and a b ≡ 0 → Marks t
    mark_same z facts start masked mark p q r v =
        let e = words p q r v in
        mark_kept
        s
        facts
        (fv (expr_at s p))
        (fv (expr_at s q))
        start
        t
        a
        b
        (async facts start p a masked (rw v first) (rw e.0 at a_is))
        (async facts start q b masked (rw v second) (rw e.1 at b_is))
        z
        (mark p q r v)

    pub mark_new : a < 2 ^ SPAN → (bit_and a b ≡ 0 → ⊥) → Marks 1
    mark_new f z facts start masked mark p q r v =
        let e = words p q r v in
        masks_meet
        s
        facts
        start
        a
        b
        (fv (expr_at s p))
        (fv (expr_at s q))
        (async facts start p a masked (rw v first) (rw e.0 at a_is))
        (async facts start q b masked (rw v second) (rw e.1 at b_is))
        f
        z
        (start + SPAN)
