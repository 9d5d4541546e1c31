-- Names linked from the back, and what goes along the links.
use Prim.Native.Nat.{ℕ, zero, suc, ◌+◌, ◌-◌, ◌<◌, ◌≤◌}
use mathlib.Core.Path.{◌≡◌, refl, sym, ◌∙◌}
use mathlib.Core.Bool.{Bool, true, false}
use mathlib.Core.List.{List}
use mathlib.Core.Logic.{⊎_elim}
use native.Mathlib.Omega.{arith}
use borrow.Author.Tests.{eq-eqb, ne_eqb, eqb-true, eqb-false}
use lib.Dec.{eqb}
use lib.ListN.{length, get_or, set, replicate, length-set}
use lib.Seq.{get_or-set_same, get_or-set_other}
use Rattle.script.proofs.Lists.{lt_or_le}
use Rattle.script.proofs.Tests.{true_false}
use Rattle.numbering.specs.Numbers.{role_test, chosen_number}
use Rattle.numbering.specs.Chains.{FirstFrom, next_in, LinkedFrom, LinkedSort, ChainsAre, SORTS, sort_number, SortIs, HeadsFrom}
use Rattle.std.specs.Prelude.{Some, None}
use Rattle.numbering.specs.declared.Firsts.{Firsts}
use Rattle.numbering.specs.declared.Sort.{Sort}
use Rattle.numbering.proofs.Sorts.{every_sort}

-- What each token that fails a test keeps holds at the first that passes it.
pub skipped :
    {test : ℕ → Bool} {from n r : ℕ} (P : ℕ → Type 0)
    → FirstFrom test from n r
    → ((k : ℕ) → k < n → test k ≡ false → P k → P (k + 1))
    → P from
    → P r
skipped {test} {from} {n} {r} P f keep p =
    let e : from + (r - from) ≡ r = omega (arith, f.reached) in
    rw e at (go (r - from) (omega (arith, f.reached)))
  where
    go : (m : ℕ) → from + m ≤ r → P (from + m)
    go zero h = let e : from + 0 ≡ from = omega arith in rw e p
    go (suc m) h =
        let e : from + suc m ≡ from + m + 1 = omega arith in
        rw e (keep (from + m) (omega (arith, f.within)) (f.before (from + m) (omega arith) (omega arith)) (go m (omega arith)))

-- What the code reads behind token i is the next of its sort.
pub follows :
    {test : ℕ → Bool} {roles chain : List ℕ} {n first i next : ℕ}
    → LinkedSort test roles n chain first
    → i < n
    → test (get_or roles i 0) ≡ true
    → next ≡ next_in chain i n
    → FirstFrom (λ k. test (get_or roles k 0)) (i + 1) n next
follows {i = i} l h p e = rw e (l.leads i (omega arith) h p)

-- One token more in front.
first_past : {test : ℕ → Bool} {i n r : ℕ} → test i ≡ false → FirstFrom test (i + 1) n r → FirstFrom test i n r
first_past {test} {i} {n} {r} p f =
    record {
      reached = omega (arith, f.reached);
      within = f.within;
      before = λ k a b. ⊎_elim (λ (l : k < i + 1). let e : k ≡ i = omega arith in rw e p) (λ l. f.before k l b) (lt_or_le k (i + 1));
      there = f.there;
    }

first_here : {test : ℕ → Bool} {i n : ℕ} → i < n → test i ≡ true → FirstFrom test i n i
first_here h p = record { reached = omega arith; within = omega arith; before = λ k a b. absurd (omega arith); there = λ l. p }

-- Token i of a chain leads to the next, which stands behind it.
leads_next : (chain : List ℕ) (i n next : ℕ) → i < length chain → i < next → next_in (set chain i (chosen_number (eqb next n) i next)) i n ≡ next
leads_next chain i n next h l = rw (get_or-set_same chain i (chosen_number (eqb next n) i next) 0 h) (go (eqb next n) refl)
  where
    go : (b : Bool) → eqb next n ≡ b → chosen_number (eqb (chosen_number (eqb next n) i next) i) n (chosen_number (eqb next n) i next) ≡ next
    go true e = rw (e, eq-eqb i i refl) (sym (eqb-true next n e))
    go false e = rw (e, ne_eqb next i (λ z. omega arith))

module _ (test : ℕ → Bool) (roles chain chain' : List ℕ) (i n first : ℕ) (linked : LinkedFrom test roles (i + 1) n chain first)
    (long : length chain' ≡ length chain) (same : (k : ℕ) → i < k → get_or chain' k 0 ≡ get_or chain k 0) where
  leads_more :
      (test (get_or roles i 0) ≡ true → FirstFrom (λ k. test (get_or roles k 0)) (i + 1) n (next_in chain' i n))
      → (k : ℕ)
      → i ≤ k
      → k < n
      → test (get_or roles k 0) ≡ true
      → FirstFrom (λ j. test (get_or roles j 0)) (k + 1) n (next_in chain' k n)
  leads_more f k a b p =
      ⊎_elim
      (λ (l : k < i + 1). let e : k ≡ i = omega arith in rw e (f (rw e at p)))
      (λ (l : i + 1 ≤ k). rw (same k (omega arith)) (linked.leads k l b p))
      (lt_or_le k (i + 1))

  linked_past : test (get_or roles i 0) ≡ false → LinkedFrom test roles i n chain' first
  linked_past p =
      record {
        room = omega (arith, linked.room);
        begins = first_past p linked.begins;
        leads = leads_more (λ q. absurd (true_false (sym q ∙ p)));
      }

  linked_with : i < n → test (get_or roles i 0) ≡ true → next_in chain' i n ≡ first → LinkedFrom test roles i n chain' i
  linked_with h p e =
      record {
        room = omega (arith, linked.room);
        begins = first_here h p;
        leads = leads_more (λ q. rw e linked.begins);
      }

pub low : (s : Sort) → sort_number s < SORTS
low = every_sort (λ s. sort_number s < SORTS) (omega arith) (omega arith) (omega arith) (omega arith) (omega arith)

-- A token whose role is of no sort.
module _ (roles chain heads : List ℕ) (i n : ℕ) (linked : HeadsFrom roles (i + 1) n chain heads) where
  pub link_none : SortIs (get_or roles i 0) None → HeadsFrom roles i n chain heads
  link_none is =
      record {
        many = linked.many;
        each = λ s. linked_past (role_test s) roles chain chain i n (get_or heads (sort_number s) 0) (linked.each s) refl (λ k l. refl) (is s);
      }

  pub head_within : (sort : Sort) → get_or heads (sort_number sort) 0 ≤ n
  head_within sort = (linked.each sort).begins.within

  -- What the code makes of token i, which is of a sort.
  module _ (sort : Sort) (is : SortIs (get_or roles i 0) (Some sort)) where
    pub link_one :
        (v : ℕ)
        → i < n
        → v ≡ chosen_number (eqb (get_or heads (sort_number sort) 0) n) i (get_or heads (sort_number sort) 0)
        → HeadsFrom roles i n (set chain i v) (set heads (sort_number sort) i)
    link_one v h e = record { many = length-set heads (sort_number sort) i ∙ linked.many; each = λ s. go s (eqb (sort_number sort) (sort_number s)) refl }
      where
        same : (k : ℕ) → i < k → get_or (set chain i v) k 0 ≡ get_or chain k 0
        same k l = get_or-set_other chain i k v 0 (λ z. omega arith)

        go : (s : Sort) (b : Bool) → eqb (sort_number sort) (sort_number s) ≡ b → LinkedFrom (role_test s) roles i n (set chain i v) (get_or (set heads (sort_number sort) i) (sort_number s) 0)
        go s true q =
            let w : sort_number sort ≡ sort_number s = eqb-true (sort_number sort) (sort_number s) q in
            let u : get_or (set heads (sort_number sort) i) (sort_number s) 0 ≡ i = rw (← w) (get_or-set_same heads (sort_number sort) i 0 (omega (arith, low sort, linked.many))) in
            let next : next_in (set chain i v) i n ≡ get_or heads (sort_number s) 0 =
            rw (← w, e) (leads_next chain i n (get_or heads (sort_number sort) 0) (omega (arith, (linked.each s).room)) (rw w (omega (arith, (linked.each s).begins.reached)))) in
            rw u (linked_with (role_test s) roles chain (set chain i v) i n (get_or heads (sort_number s) 0) (linked.each s) (length-set chain i v) same h (is s ∙ q) next)
        go s false q =
            let u : get_or (set heads (sort_number sort) i) (sort_number s) 0 ≡ get_or heads (sort_number s) 0 = get_or-set_other heads (sort_number sort) (sort_number s) i 0 (λ z. eqb-false (sort_number sort) (sort_number s) q (sym z)) in
            rw u (linked_past (role_test s) roles chain (set chain i v) i n (get_or heads (sort_number s) 0) (linked.each s) (length-set chain i v) same (is s ∙ q))

-- No token is linked yet, and all are.
pub none_linked : (roles chain : List ℕ) (n : ℕ) → n ≤ length chain → HeadsFrom roles n n chain (replicate SORTS n)
none_linked roles chain n h =
    record {
      many = refl;
      each =
          λ s. rw (head s)
          (record {
            room = h;
            begins = record { reached = omega arith; within = omega arith; before = λ k a b. absurd (omega arith); there = λ l. absurd (omega arith) };
            leads = λ k a b. absurd (omega arith);
          });
    }
  where
    head : (s : Sort) → get_or (replicate SORTS n) (sort_number s) 0 ≡ n
    head = every_sort (λ s. get_or (replicate SORTS n) (sort_number s) 0 ≡ n) refl refl refl refl refl

pub all_linked : (roles chain : List ℕ) (i n : ℕ) (f : Firsts) → i ≤ 0 → HeadsFrom roles i n chain f.by_sort → ChainsAre roles n chain f
all_linked roles chain i n f h linked = let e : i ≡ 0 = omega arith in record { each = λ s. rw e at (linked.each s) }
