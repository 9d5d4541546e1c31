-- Tables that differ only in the words of forks: ranks, buckets, masks and marks say the same by each.
use Prim.Native.Nat.{ℕ, ◌+◌, ◌*◌, ◌/◌, ◌<◌, ◌≤◌}
use mathlib.Core.Path.{◌≡◌, refl, sym, ◌∙◌}
use mathlib.Core.Bool.{Bool, true, false}
use mathlib.Core.List.{List}
use native.Mathlib.Omega.{arith}
use lib.Dec.{eqb}
use lib.ListN.{length, get_or, set, length-set}
use lib.Seq.{get_or-set_same, get_or-set_other}
use borrow.Author.Tests.{eqb-true, eqb-false}
use Rattle.script.specs.declared.Section.TheVariants.{Nodes as nodes}
use Rattle.script.specs.Statements.{WithinLayout}
use Rattle.names.specs.Ranks.{slot_of, SLOTS, RankOf, of_this, of_parameter, of_node, Ranked, head_of, Search, Indexed}
use Rattle.names.specs.Filling.{Linked}
use Rattle.names.proofs.KindLaws.{place_small, not_none, slot_node}
use Rattle.names.proofs.SearchLaws.{bucket_of, within, search_moved}
use Rattle.masks.specs.Free.{MaskOf, Mark, met, apart, IsFork, Like}
use Rattle.masks.proofs.FreeLaws.{fork_nameless}

pub like_self : {s facts : List ℕ} → Like s facts facts
like_self = record { size = refl; others = λ n d. refl }

pub like_then : {s facts facts' facts'' : List ℕ} → Like s facts facts' → Like s facts' facts'' → Like s facts facts''
like_then l m = record { size = m.size ∙ l.size; others = λ n d. m.others n d ∙ l.others n d }

pub like_back : {s facts facts' : List ℕ} → Like s facts facts' → Like s facts' facts
like_back l = record { size = sym l.size; others = λ n d. sym (l.others n d) }

-- A store at the first slot of a fork, or of the word that is there.
pub like_set : (s facts : List ℕ) (n r : ℕ) → 2 * n < length facts → ((IsFork s n → ⊥) → r ≡ get_or facts (2 * n) 0) → Like s facts (set facts (2 * n) r)
like_set s facts n r h f = record { size = length-set facts (2 * n) r; others = λ i d. at i d (eqb i (2 * n)) refl }
  where
    at : (i : ℕ) → (IsFork s (i / 2) → ⊥) → (b : Bool) → eqb i (2 * n) ≡ b → get_or (set facts (2 * n) r) i 0 ≡ get_or facts i 0
    at i d true e =
        let q = eqb-true i (2 * n) e in
        let p : i / 2 ≡ n = omega arith in
        rw (q, get_or-set_same facts (2 * n) r 0 h) (f (rw p at d))
    at i d false e = get_or-set_other facts (2 * n) i r 0 (eqb-false i (2 * n) e)

-- The rank of a variable.
rank_like : {s facts facts' : List ℕ} {x k : ℕ} → Like s facts facts' → RankOf s facts x k → RankOf s facts' x k
rank_like l of_this = of_this
rank_like l of_parameter = of_parameter
rank_like {s} {facts} {facts'} l (of_node {n = n} {j = j} {x = x} q) =
    let p = slot_node n j (place_small q) in
    let e : get_or facts' (slot_of n j) 0 ≡ get_or facts (slot_of n j) 0 = l.others (slot_of n j) (λ f. not_none q (fork_nameless s n j (rw p at f.1))) in
    let r : RankOf s facts' x (get_or facts' (slot_of n j) 0) = of_node q in
    rw e at r

pub ranked_like : {s facts facts' : List ℕ} {count : ℕ} → Like s facts facts' → Ranked s facts count → Ranked s facts' count
ranked_like l r =
    let b = like_back l in
    record {
      size = l.size ∙ r.size;
      few = r.few;
      below = λ t. r.below (rank_like b t);
      same = λ t u. r.same (rank_like b t) (rank_like b u);
      apart = λ t u. r.apart (rank_like b t) (rank_like b u);
    }

-- The buckets.
module _ (s facts facts' : List ℕ) (layout : WithinLayout s) (l : Like s facts facts') where
  past : (k : ℕ) → SLOTS ≤ k → get_or facts' k 0 ≡ get_or facts k 0
  past k h = l.others k (λ f. omega (arith, f.0, layout.counts_are.within nodes))

  pub indexed_like : (count : ℕ) → Ranked s facts count → Indexed s facts → Indexed s facts'
  indexed_like count r x =
      record {
        links = λ n h. rw (past (SLOTS + n) (omega arith)) (x.links n h);
        inside = λ k n h e. x.inside k n h (sym (past k h) ∙ e);
        found = λ {x = y} q h. let u = x.found q h in (u.0, moved y _ u.1);
      }
    where
      linked : Linked s facts
      linked = record { size = r.size; links = x.links; inside = x.inside }

      moved : (y q : ℕ) → Search s facts y (head_of facts y) q → Search s facts' y (head_of facts' y) q
      moved y q t =
          rw (past (bucket_of y) (omega arith))
          (search_moved
          s
          facts
          facts'
          SLOTS
          linked
          (omega arith)
          (λ i h. past (SLOTS + i) (omega arith))
          (omega (arith, within s facts y linked (bucket_of y) (omega arith), layout.counts_are.within nodes))
          t)

-- Masks and marks.
pub mask_like : {s facts facts' : List ℕ} {start m : ℕ} {l : List ℕ} → Like s facts facts' → MaskOf s facts start m l → MaskOf s facts' start m l
mask_like w p = record { tells = λ x k h r. p.tells x k h (rank_like (like_back w) r); only = λ k h e. let x = p.only k h e in (x.0, rank_like w x.1) }

pub mark_like : {s facts facts' : List ℕ} {bound t : ℕ} {l m : List ℕ} → Like s facts facts' → Mark s facts bound l m t → Mark s facts' bound l m t
mark_like w (met x p q) = met x p q
mark_like w (apart f) = apart (λ x k r. f x k (rank_like (like_back w) r))
