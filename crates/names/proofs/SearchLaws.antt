-- The search along a bucket.
use Prim.Native.Nat.{ℕ, zero, suc, ◌+◌, ◌*◌, ◌/◌, ◌%◌, ◌<◌, ◌≤◌}
use mathlib.Core.Path.{◌≡◌, refl, ap}
use mathlib.Core.List.{List}
use native.Mathlib.Omega.{arith}
use lib.ListN.{get_or}
use Rattle.script.specs.declared.Section.TheVariants.{Nodes as nodes}
use Rattle.script.specs.Section.{count_of}
use Rattle.names.specs.Ranks.{slot_of, SLOTS, Names, slot_word, SlotNames, RankOf, of_this, of_parameter, of_node, hash_of, head_of, Search, nowhere, at_slot, onward}
use Rattle.names.specs.Facts.{Facts}
use Rattle.names.specs.Filling.{Linked, RankTo, to_this, to_parameter, to_slot}
use Rattle.names.proofs.KindLaws.{place_small, first_slot, stands}

-- A slot and 1 more, or 0, is at most as many as there are slots.
pub at_most : (v n : ℕ) → ((i : ℕ) → v ≡ suc i → i < n) → v ≤ n
at_most zero n f = omega arith
at_most (suc v) n f = omega (arith, f v refl)

-- Where the bucket of x stands.
abbrev pub bucket_of : ℕ → ℕ
bucket_of x = SLOTS + SLOTS + hash_of x

module _ (s facts : List ℕ) (x : ℕ) where
  -- A search comes to one answer.
  search_once : {h r q : ℕ} → Search s facts x h r → Search s facts x h q → r ≡ q
  search_once nowhere nowhere = refl
  search_once (at_slot e) (at_slot d) = refl
  search_once (at_slot e) (onward d t) = absurd (d e)
  search_once (onward d t) (at_slot e) = absurd (d e)
  search_once (onward d t) (onward c u) = search_once t u

  -- The slot that is found has the name, and what each slot in a bucket has.
  module _ (P : ℕ → Type 0) (all : (k i : ℕ) → SLOTS ≤ k → get_or facts k 0 ≡ suc i → P i) where
    ends : {h r : ℕ} → ((i : ℕ) → h ≡ suc i → P i) → Search s facts x h r → (m : ℕ) → r ≡ suc m → P m × (slot_word s m ≡ x)
    ends f nowhere m e = absurd (omega arith)
    ends f (at_slot {k = n} d) m e = let q : n ≡ m = omega arith in (f m (ap suc q), rw (← q) d)
    ends f (onward {k = n} d t) m e = ends (λ i. all (SLOTS + n) i (omega arith)) t m e

    pub found_is : {r : ℕ} → Search s facts x (head_of facts x) r → (m : ℕ) → r ≡ suc m → P m × (slot_word s m ≡ x)
    found_is = ends (λ i. all (bucket_of x) i (omega arith))

  module _ (w : Linked s facts) where
    pub within : (k : ℕ) → SLOTS ≤ k → get_or facts k 0 ≤ 2 * count_of s nodes
    within k h = at_most (get_or facts k 0) (2 * count_of s nodes) (λ i e. omega (arith, (w.inside k i h e).there))

    pub found_names : {r : ℕ} → Search s facts x (head_of facts x) r → (m : ℕ) → r ≡ suc m → SlotNames s m x
    found_names t m e = let u = found_is (λ i. SlotNames s i (slot_word s i)) w.inside t m e in rw u.1 at u.0

-- A variable that is not found has no rank.
pub unranked : (s facts : List ℕ) (n : ℕ) → ((i y : ℕ) → i < n → SlotNames s i y → 2 ≤ y → (m : ℕ) × Search s facts y (head_of facts y) (suc m)) → (x k : ℕ) → 2 ≤ x → Search s facts x (head_of facts x) 0 → RankTo s facts n x k → ⊥
unranked s facts n f x k h t to_this = omega arith
unranked s facts n f x k h t to_parameter = omega arith
unranked s facts n f x k h t (to_slot {i = i} l q) = let u = f i x l q h in omega (arith, search_once s facts x t u.1)

pub ranked_to : {s facts : List ℕ} {x k : ℕ} → RankOf s facts x k → RankTo s facts (2 * count_of s nodes) x k
ranked_to of_this = to_this
ranked_to of_parameter = to_parameter
ranked_to (of_node {n = n} {j = j} q) = to_slot {i = slot_of n j} (omega (arith, q.there, place_small q)) (stands q)

-- The rank of the variable at a node's first place.
pub rank_first : {s facts : List ℕ} {n x : ℕ} → Names s n 0 x → RankOf s facts x (get_or facts (2 * n) 0)
rank_first {s} {facts} {n} {x} q = let r : RankOf s facts x (get_or facts (slot_of n 0) 0) = of_node q in rw (first_slot n) at r

-- Links that stay lead to the same answer.
module _ (s facts facts' : List ℕ) (n : ℕ) (w : Linked s facts) (few : n ≤ SLOTS)
    (kept : (i : ℕ) → i < n → get_or facts' (SLOTS + i) 0 ≡ get_or facts (SLOTS + i) 0) where
  pub search_moved : {x h r : ℕ} → h ≤ n → Search s facts x h r → Search s facts' x h r
  search_moved l nowhere = nowhere
  search_moved l (at_slot e) = at_slot e
  search_moved {r = r} l (onward {k = i} d t) = onward {r = r} d (rw (kept i (omega arith)) (search_moved (omega (arith, w.links i (omega arith))) t))

-- What the loop of the search keeps: the rest of the search leads to the answer.
pub record Looking (s facts : List ℕ) (x at : ℕ) : Type 0 where
  pub few : at ≤ 2 * count_of s nodes
  pub leads : {r : ℕ} → Search s facts x at r → Search s facts x (head_of facts x) r

module _ (s facts : List ℕ) (x : ℕ) where
  pub look_start : (v k : ℕ) → Linked s facts → k ≡ bucket_of x → v ≡ get_or facts k 0 → Looking s facts x v
  look_start v k w q e = rw (e, q) (record { few = within s facts x w (bucket_of x) (omega arith); leads = λ t. t })

  pub look_end : Looking s facts x 0 → Search s facts x (head_of facts x) 0
  look_end l = l.leads nowhere

  pub look_hit : (k : ℕ) → Looking s facts x (suc k) → slot_word s k ≡ x → Search s facts x (head_of facts x) (suc k)
  look_hit k l e = l.leads (at_slot e)

  pub look_on : (k v : ℕ) → Linked s facts → Looking s facts x (suc k) → (slot_word s k ≡ x → ⊥) → v ≡ get_or facts (SLOTS + k) 0 → Looking s facts x v
  look_on k v w l d e = rw e (record { few = within s facts x w (SLOTS + k) (omega arith); leads = λ t. l.leads (onward d t) })

module _ (s facts : List ℕ) (f : Facts s facts) where
  pub linked_of : Linked s facts
  linked_of = record { size = f.ranked.size; links = f.indexed.links; inside = f.indexed.inside }

  pub rank_small : (x : ℕ) → x < 2 → RankOf s facts x x
  rank_small zero h = of_this
  rank_small (suc zero) h = of_parameter
  rank_small (suc (suc x)) h = absurd (omega arith)

  pub rank_none : (x : ℕ) → 2 ≤ x → Search s facts x (head_of facts x) 0 → (k : ℕ) → RankOf s facts x k → ⊥
  rank_none x h t k q = unranked s facts (2 * count_of s nodes) (λ i y l. f.indexed.found) x k h t (ranked_to q)

  pub rank_found : (x r : ℕ) → Search s facts x (head_of facts x) (suc r) → SlotNames s r x
  rank_found x r t = found_names s facts x linked_of t r refl

  pub rank_at : (x r : ℕ) → Search s facts x (head_of facts x) (suc r) → RankOf s facts x (get_or facts r 0)
  rank_at x r t =
      let e : slot_of (r / 2) (r % 2) ≡ r = omega arith in
      let q : RankOf s facts x (get_or facts (slot_of (r / 2) (r % 2)) 0) = of_node (rank_found x r t) in
      rw e at q
