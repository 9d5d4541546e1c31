-- One more slot gets its rank: a law for each way of the code.
use Prim.Native.Nat.{ℕ, zero, suc, ◌+◌, ◌*◌, ◌/◌, ◌%◌, ◌-◌, ◌<◌, ◌≤◌}
use mathlib.Core.Path.{◌≡◌, refl, sym, ◌∙◌}
use mathlib.Core.Bool.{Bool, true, false}
use mathlib.Core.List.{List}
use mathlib.Core.Logic.{◌⊎◌, ⊎_elim, inl, inr}
use mathlib.Core.Option.{none, some}
use native.Mathlib.Nat.{eq-or-lt_of_le, mod-lt}
use native.Mathlib.Omega.{arith}
use lib.Dec.{eqb}
use lib.ListN.{length, get_or, set, length-set}
use lib.Seq.{get_or-set_same, get_or-set_other}
use borrow.Author.Tests.{eqb-true, eqb-false}
use Rattle.limits.specs.Limits.{NODES}
use Rattle.script.specs.declared.Section.TheVariants.{Nodes as nodes}
use Rattle.script.specs.Section.{count_of, node_word}
use Rattle.script.specs.Reading.{kind_of, view_at}
use Rattle.script.specs.Statements.{WithinLayout}
use Rattle.slices.specs.Zero.{AllZero}
use Rattle.names.specs.Ranks.{slot_of, SLOTS, BUCKETS, FACTS, name_in, name_at, slot_word, SlotNames, Ranked, hash_of, head_of, Search, at_slot, onward, Indexed}
use Rattle.names.specs.Filling.{names_kind, Nameless, RankTo, to_this, to_parameter, to_slot, FilledTo}
use Rattle.names.proofs.KindLaws.{few_names, no_name, name_word, place_small, one_name, not_none, slot_node, slot_place, first_node_lem, first_place, stands}
use Rattle.names.proofs.SearchLaws.{at_most, bucket_of, found_is, found_names, unranked, ranked_to, search_moved}

same_or_not : (k l : ℕ) → (k ≡ l) ⊎ (k ≡ l → ⊥)
same_or_not k l = go (eqb k l) refl
  where
    go : (b : Bool) → eqb k l ≡ b → (k ≡ l) ⊎ (k ≡ l → ⊥)
    go true e = inl (eqb-true k l e)
    go false e = inr (eqb-false k l e)

module _ (s facts : List ℕ) (n count : ℕ) (h : FilledTo s facts n count) (few : n < SLOTS) where
  -- A bucket's first slot is among the first n.
  head_most : (x : ℕ) → head_of facts x ≤ n
  head_most x = at_most (head_of facts x) n (λ i. h.earlier (bucket_of x) i (omega arith))

  -- No new rank is given: only the word of slot n is another, and its variable has that rank already.
  module _ (facts' : List ℕ) (size : length facts' ≡ FACTS)
      (other : (k : ℕ) → (k ≡ n → ⊥) → get_or facts' k 0 ≡ get_or facts k 0)
      (own : (x : ℕ) → SlotNames s n x → RankTo s facts n x (get_or facts' n 0))
      (own_found : (x : ℕ) → SlotNames s n x → 2 ≤ x → (m : ℕ) × Search s facts x (head_of facts x) (suc m))
      (own-blank : name_at s n ≡ none → get_or facts' n 0 ≡ 0) where
    old_slot : (i x : ℕ) → i < n + 1 → SlotNames s i x → RankTo s facts n x (get_or facts' i 0)
    old_slot i x l q = ⊎_elim (λ (e : i ≡ n). rw e (own x (rw e at q))) (λ (b : i < n). rw (other i (λ e. omega arith)) (to_slot b q)) (eq-or-lt_of_le (omega arith))

    old : {x k : ℕ} → RankTo s facts' (n + 1) x k → RankTo s facts n x k
    old to_this = to_this
    old to_parameter = to_parameter
    old (to_slot {i = i} {x = x} l q) = old_slot i x l q

    old_found : (i x : ℕ) → i < n + 1 → SlotNames s i x → 2 ≤ x → (m : ℕ) × Search s facts x (head_of facts x) (suc m)
    old_found i x l q b = ⊎_elim (λ (e : i ≡ n). own_found x (rw e at q) b) (λ (d : i < n). h.found d q b) (eq-or-lt_of_le (omega arith))

    moved : (x r : ℕ) → Search s facts x (head_of facts x) r → Search s facts' x (head_of facts' x) r
    moved x r t = rw (other (bucket_of x) (λ e. omega arith)) (search_moved s facts facts' n h.linked (omega arith) (λ i l. other (SLOTS + i) (λ e. omega arith)) (head_most x) t)

    old_blank : (i : ℕ) → i < SLOTS → (i < n + 1 → name_at s i ≡ none) → get_or facts' i 0 ≡ 0
    old_blank i b f =
        ⊎_elim (λ (e : i ≡ n). rw e (own-blank (rw e at (f (omega arith))))) (λ (d : i ≡ n → ⊥). other i d ∙ h.blank i b (λ l. f (omega arith))) (same_or_not i n)

    fill_old : FilledTo s facts' (n + 1) count
    fill_old =
        record {
          linked =
              record {
                size = size;
                links = λ i b. rw (other (SLOTS + i) (λ e. omega arith)) (h.linked.links i b);
                inside = λ k i b e. h.linked.inside k i b (sym (other k (λ q. omega arith)) ∙ e);
              };
          few = omega (arith, h.few);
          below = λ r. h.below (old r);
          same = λ r t. h.same (old r) (old t);
          apart = λ r t. h.apart (old r) (old t);
          earlier = λ k i b e. omega (arith, h.earlier k i b (sym (other k (λ q. omega arith)) ∙ e));
          found = λ {i} {x} l q b. let u = old_found i x l q b in (u.0, moved x (suc u.0) u.1);
          blank = old_blank;
        }

  -- A new rank: slot n is the first of its bucket.
  module _ (x : ℕ) (q : SlotNames s n x) (large : 2 ≤ x) (None-found : Search s facts x (head_of facts x) 0)
      (facts' : List ℕ) (size : length facts' ≡ FACTS)
      (rank : get_or facts' n 0 ≡ count) (link : get_or facts' (SLOTS + n) 0 ≡ head_of facts x) (head : head_of facts' x ≡ suc n)
      (other : (k : ℕ) → (k ≡ n → ⊥) → (k ≡ SLOTS + n → ⊥) → (k ≡ bucket_of x → ⊥) → get_or facts' k 0 ≡ get_or facts k 0) where
    -- A rank after the step was there before, or is the new one.
    abbrev Was : ℕ → ℕ → Type 0
    Was y k = RankTo s facts n y k ⊎ ((y ≡ x) × (k ≡ count))

    was_slot : (i y : ℕ) → i < n + 1 → SlotNames s i y → Was y (get_or facts' i 0)
    was_slot i y l p =
        ⊎_elim
        (λ (e : i ≡ n). inr (one_name (rw e at p) q, rw e rank))
        (λ (b : i < n). inl (rw (other i (λ e. omega arith) (λ e. omega arith) (λ e. omega arith)) (to_slot b p)))
        (eq-or-lt_of_le (omega arith))

    was : {y k : ℕ} → RankTo s facts' (n + 1) y k → Was y k
    was to_this = inl to_this
    was to_parameter = inl to_parameter
    was (to_slot {i = i} {x = y} l p) = was_slot i y l p

    new : (k : ℕ) → RankTo s facts n x k → ⊥
    new k = unranked s facts n (λ i y. h.found) x k large None-found

    same' : (y k l : ℕ) → Was y k → Was y l → k ≡ l
    same' y k l (inl r) (inl t) = h.same r t
    same' y k l (inl r) (inr e) = absurd (new k (rw e.0 at r))
    same' y k l (inr e) (inl t) = absurd (new l (rw e.0 at t))
    same' y k l (inr e) (inr d) = omega arith

    apart' : (y z k : ℕ) → Was y k → Was z k → y ≡ z
    apart' y z k (inl r) (inl t) = h.apart r t
    apart' y z k (inl r) (inr e) = absurd (omega (arith, h.below r))
    apart' y z k (inr e) (inl t) = absurd (omega (arith, h.below t))
    apart' y z k (inr e) (inr d) = omega arith

    below' : (y k : ℕ) → Was y k → k < count + 1
    below' y k (inl r) = omega (arith, h.below r)
    below' y k (inr e) = omega arith

    -- What stands in a link or a bucket after the step is slot n, or stood in one before.
    came : (k m : ℕ) → SLOTS ≤ k → get_or facts' k 0 ≡ suc m → (m ≡ n) ⊎ ((j : ℕ) × ((SLOTS ≤ j) × (get_or facts j 0 ≡ suc m)))
    came k m b e =
        ⊎_elim
        (λ (p : k ≡ bucket_of x). inl (omega (arith, head, rw p at e)))
        (λ (p : k ≡ bucket_of x → ⊥).
        ⊎_elim
        (λ (r : k ≡ SLOTS + n). inr (bucket_of x, (omega arith, sym link ∙ rw r at e)))
        (λ (r : k ≡ SLOTS + n → ⊥). inr (k, (b, sym (other k (λ z. omega arith) r p) ∙ e)))
        (same_or_not k (SLOTS + n)))
        (same_or_not k (bucket_of x))

    link_kept : (i : ℕ) → i < SLOTS → (i ≡ n → ⊥) → get_or facts' (SLOTS + i) 0 ≡ get_or facts (SLOTS + i) 0
    link_kept i b d = other (SLOTS + i) (λ e. omega arith) (λ e. d (omega arith)) (λ e. omega arith)

    moved' : (y v r : ℕ) → v ≤ n → Search s facts y v r → Search s facts' y v r
    moved' y v r l t = search_moved s facts facts' n h.linked (omega arith) (λ i b. link_kept i (omega arith) (λ e. omega arith)) l t

    finds : (y m : ℕ) → Search s facts y (head_of facts y) (suc m) → (m : ℕ) × Search s facts' y (head_of facts' y) (suc m)
    finds y m t =
        ⊎_elim
        (λ (e : bucket_of y ≡ bucket_of x).
        rw (e, head)
        (⊎_elim
        (λ (p : slot_word s n ≡ y). (n, at_slot p))
        (λ (p : slot_word s n ≡ y → ⊥). (m, onward p (rw link (moved' y (head_of facts x) (suc m) (head_most x) (rw e at t)))))
        (same_or_not (slot_word s n) y)))
        (λ (e : bucket_of y ≡ bucket_of x → ⊥). (m, rw (other (bucket_of y) (λ z. omega arith) (λ z. omega arith) e) (moved' y (head_of facts y) (suc m) (head_most y) t)))
        (same_or_not (bucket_of y) (bucket_of x))

    finds_slot : (i y : ℕ) → i < n + 1 → SlotNames s i y → 2 ≤ y → (m : ℕ) × Search s facts' y (head_of facts' y) (suc m)
    finds_slot i y l p b =
        ⊎_elim
        (λ (e : i ≡ n). rw (one_name (rw e at p) q) (n, rw head (at_slot (name_word s (n / 2) (n % 2) x q.name))))
        (λ (d : i < n). let u = h.found d p b in finds y u.0 u.1)
        (eq-or-lt_of_le (omega arith))

    links' : (i : ℕ) → i < SLOTS → get_or facts' (SLOTS + i) 0 ≤ i
    links' i b = ⊎_elim (λ (e : i ≡ n). rw e (rw link (head_most x))) (λ (d : i ≡ n → ⊥). rw (link_kept i b d) (h.linked.links i b)) (same_or_not i n)

    own_name : SlotNames s n (slot_word s n)
    own_name = rw (name_word s (n / 2) (n % 2) x q.name) q

    inside' : (k m : ℕ) → SLOTS ≤ k → get_or facts' k 0 ≡ suc m → SlotNames s m (slot_word s m)
    inside' k m b e = ⊎_elim (λ (p : m ≡ n). rw p own_name) (λ u. h.linked.inside u.0 m u.1.0 u.1.1) (came k m b e)

    earlier' : (k m : ℕ) → SLOTS ≤ k → get_or facts' k 0 ≡ suc m → m < n + 1
    earlier' k m b e = ⊎_elim (λ (p : m ≡ n). omega arith) (λ u. omega (arith, h.earlier u.0 m u.1.0 u.1.1)) (came k m b e)

    blank' : (i : ℕ) → i < SLOTS → (i < n + 1 → name_at s i ≡ none) → get_or facts' i 0 ≡ 0
    blank' i b f =
        ⊎_elim
        (λ (e : i ≡ n). absurd (not_none q (rw e at (f (omega arith)))))
        (λ (d : i ≡ n → ⊥). other i d (λ e. omega arith) (λ e. omega arith) ∙ h.blank i b (λ l. f (omega arith)))
        (same_or_not i n)

    fill_new : FilledTo s facts' (n + 1) (count + 1)
    fill_new =
        record {
          linked = record { size = size; links = links'; inside = inside' };
          few = omega (arith, h.few);
          below = λ {x = y} {k} r. below' y k (was r);
          same = λ {x = y} {k} {l} r t. same' y k l (was r) (was t);
          apart = λ {x = y} {y = z} {k} r t. apart' y z k (was r) (was t);
          earlier = earlier';
          found = λ {i} {x = y} l p b. finds_slot i y l p b;
          blank = blank';
        }

-- Before the first slot.
pub fill_start : (s facts : List ℕ) → length facts ≡ FACTS → AllZero facts → FilledTo s facts 0 2
fill_start s facts size zeros =
    record {
      linked = record { size = size; links = λ i b. omega (arith, zeros.zero (SLOTS + i)); inside = λ k i b e. absurd (omega (arith, zeros.zero k)) };
      few = omega arith;
      below = small;
      same = one;
      apart = other;
      earlier = λ k i b e. absurd (omega (arith, zeros.zero k));
      found = λ l. absurd (omega arith);
      blank = λ i b f. zeros.zero i;
    }
  where
    small : {x k : ℕ} → RankTo s facts 0 x k → k < 2
    small to_this = omega arith
    small to_parameter = omega arith
    small (to_slot l q) = absurd (omega arith)

    own : {x k : ℕ} → RankTo s facts 0 x k → x ≡ k
    own to_this = refl
    own to_parameter = refl
    own (to_slot l q) = absurd (omega arith)

    one : {x k l : ℕ} → RankTo s facts 0 x k → RankTo s facts 0 x l → k ≡ l
    one r t = sym (own r) ∙ own t

    other : {x y k : ℕ} → RankTo s facts 0 x k → RankTo s facts 0 y k → x ≡ y
    other r t = own r ∙ sym (own t)

-- After the last node's slots.
pub fill_end : (s facts : List ℕ) (n count : ℕ) → WithinLayout s → n ≡ count_of s nodes → FilledTo s facts (2 * n) count → Ranked s facts count × Indexed s facts × Nameless s facts
fill_end s facts n count layout e f =
    let h : FilledTo s facts (2 * count_of s nodes) count = rw e at f in
    let most : count_of s nodes ≤ NODES = layout.counts_are.within nodes in (
      record {
        size = h.linked.size;
        few = omega (arith, h.few);
        below = λ r. h.below (ranked_to r);
        same = λ r t. h.same (ranked_to r) (ranked_to t);
        apart = λ r t. h.apart (ranked_to r) (ranked_to t);
      },
      record {
        links = h.linked.links;
        inside = h.linked.inside;
        found = λ q b. h.found (omega (arith, q.there, place_small q)) (stands q) b;
      },
      record { zero = λ i b d. h.blank (2 * i) (omega arith) (λ z. rw (first_node_lem i, first_place i) d) },
    )

module _ (s facts : List ℕ) (n count : ℕ) (layout : WithinLayout s) (there : n / 2 < count_of s nodes) (h : FilledTo s facts n count) where
  few : n < SLOTS
  few = omega (arith, layout.counts_are.within nodes)

  pub fill_none : name_at s n ≡ none → FilledTo s facts (n + 1) count
  fill_none e =
      fill_old s facts n count h few facts h.linked.size (λ k d. refl) (λ x q. absurd (not_none q e)) (λ x q. absurd (not_none q e)) (λ d. h.blank n few (λ l. e))

  module _ (x : ℕ) (name : name_at s n ≡ some x) where
    named : SlotNames s n x
    named = record { there = there; name = name }

    -- The variable has a rank already, and is found from 2 on.
    fill_known : (k : ℕ) → RankTo s facts n x k → (2 ≤ x → (m : ℕ) × Search s facts x (head_of facts x) (suc m)) → FilledTo s (set facts n k) (n + 1) count
    fill_known k r f =
        fill_old
        s
        facts
        n
        count
        h
        few
        (set facts n k)
        (length-set facts n k ∙ h.linked.size)
        (λ i d. get_or-set_other facts n i k 0 d)
        (λ y q. rw (one_name q named, get_or-set_same facts n k 0 (omega (arith, few, h.linked.size))) r)
        (λ y q b. rw (one_name q named) (f (rw (one_name q named) at b)))
        (λ e. absurd (not_none named e))

    pub fill_small : x < 2 → FilledTo s (set facts n x) (n + 1) count
    fill_small l = fill_known x (small x l) (λ b. absurd (omega arith))
      where
        small : (y : ℕ) → y < 2 → RankTo s facts n y y
        small zero b = to_this
        small (suc zero) b = to_parameter
        small (suc (suc y)) b = absurd (omega arith)

    pub found_before : (r : ℕ) → Search s facts x (head_of facts x) (suc r) → r < n
    found_before r t = (found_is s facts x (λ i. i < n) h.earlier t r refl).0

    pub fill_found : (r : ℕ) → Search s facts x (head_of facts x) (suc r) → FilledTo s (set facts n (get_or facts r 0)) (n + 1) count
    fill_found r t = fill_known (get_or facts r 0) (to_slot (found_before r t) (found_names s facts x h.linked t r refl)) (λ l. (r, t))

    -- The table with a new rank and link, and a new first slot of the bucket.
    abbrev more : List ℕ
    more = set (set (set facts n count) (SLOTS + n) (head_of (set facts n count) x)) (bucket_of x) (n + 1)

    pub fill_fresh : 2 ≤ x → Search s facts x (head_of facts x) 0 → FilledTo s more (n + 1) (count + 1)
    fill_fresh b t =
        let size : length facts ≡ FACTS = h.linked.size in
        let bucket : hash_of x < BUCKETS = mod-lt _ (omega arith) in
        let first : List ℕ = set facts n count in
        let second : List ℕ = set first (SLOTS + n) (head_of first x) in
        let first_size : length first ≡ FACTS = length-set facts n count ∙ size in
        let second_size : length second ≡ FACTS = length-set first (SLOTS + n) (head_of first x) ∙ first_size in
        fill_new
        s
        facts
        n
        count
        h
        few
        x
        named
        b
        t
        more
        (length-set second (bucket_of x) (n + 1) ∙ second_size)
        (get_or-set_other second (bucket_of x) n (n + 1) 0 (λ e. omega (arith, few))
        ∙ get_or-set_other first (SLOTS + n) n (head_of first x) 0 (λ e. omega arith)
        ∙ get_or-set_same facts n count 0 (omega (arith, few)))
        (get_or-set_other second (bucket_of x) (SLOTS + n) (n + 1) 0 (λ e. omega (arith, few))
        ∙ get_or-set_same first (SLOTS + n) (head_of first x) 0 (omega (arith, few))
        ∙ get_or-set_other facts n (bucket_of x) count 0 (λ e. omega (arith, few)))
        (get_or-set_same second (bucket_of x) (n + 1) 0 (omega arith) ∙ omega arith)
        (λ k d d' d''.
        get_or-set_other second (bucket_of x) k (n + 1) 0 d''
        ∙ get_or-set_other first (SLOTS + n) k (head_of first x) 0 d'
        ∙ get_or-set_other facts n k count 0 d)

-- From one place of node n to the next. After its variables come places where none stands.
module _ (s facts : List ℕ) (n count : ℕ) where
  pub fill_first : FilledTo s facts (2 * n) count → FilledTo s facts (slot_of n 0) count
  fill_first h = let e : 2 * n ≡ slot_of n 0 = omega arith in rw e at h

  pub fill_next : (j : ℕ) → FilledTo s facts (slot_of n j + 1) count → FilledTo s facts (slot_of n (j + 1)) count
  fill_next j h = let e : slot_of n j + 1 ≡ slot_of n (j + 1) = omega arith in rw e at h

  module _ (layout : WithinLayout s) (there : n < count_of s nodes) where
    fill_rest : (left j : ℕ) → j + left ≡ 2 → ((i : ℕ) → j ≤ i → name_in i (view_at s n) ≡ none) → FilledTo s facts (slot_of n j) count → FilledTo s facts (2 * (n + 1)) count
    fill_rest zero j e f h = let q : slot_of n j ≡ 2 * (n + 1) = omega arith in rw q at h
    fill_rest (suc left) j e f h =
        let l : j < 2 = omega arith in
        let own : name_at s (slot_of n j) ≡ none = rw (slot_node n j l, slot_place n j l) (f j (omega arith)) in
        fill_rest left (j + 1) (omega arith) (λ i b. f i (omega arith)) (fill_next j (fill_none s facts (slot_of n j) count layout (rw (slot_node n j l) there) h own))

    pub fill_last : (j k m : ℕ) → k ≡ node_word s n 0 → m ≡ names_kind (kind_of k) → j ≤ m → m ≤ j → FilledTo s facts (slot_of n j) count → FilledTo s facts (2 * (n + 1)) count
    fill_last j k m e d l b h = fill_rest (2 - j) j (omega (arith, few_names k m d)) (λ i r. no_name s n i k m e d (omega arith)) h
