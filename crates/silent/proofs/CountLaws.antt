-- The count of a node by its kind, and the table filled from the back.
use Prim.Native.Nat.{ℕ, suc, ◌+◌, ◌-◌, ◌≤◌, ◌<◌, max}
use native.Mathlib.Omega.{arith}
use native.Mathlib.Decide.{ℕ_discrete}
use mathlib.Core.Path.{◌≡◌, refl, sym, ◌∙◌, ap}
use mathlib.Core.List.{List}
use lib.ListN.{length, get_or, set, length-set}
use lib.Seq.{get_or-set_same, get_or-set_other}
use Rattle.limits.specs.Limits.{NODES}
use Rattle.script.specs.declared.Section.TheVariants.{Nodes as nodes}
use Rattle.script.specs.Lists.{◌∈◌, run}
use Rattle.script.specs.Section.{count_of, node_word}
use Rattle.script.specs.Syntax.{Point, Expr, parts, build}
use Rattle.script.specs.declared.Kind.{Kind}
use Rattle.script.specs.declared.Kind.TheVariants.{Null, Variable, Select, Update, Call, Let, New, Cast, Fork, Lock, Constant, Sum, Unknown}
use Rattle.script.specs.Reading.{kind_of, node_of, expr_at}
use Rattle.script.specs.Statements.{WithinLayout}
use Rattle.script.proofs.Reading.{node_as, known, expr_as, part_as}
use Rattle.machine.specs.Config.{code_of}
use Rattle.machine.specs.Silent.{chain, silent_from, largest, most_silent}
use Rattle.machine.proofs.Counts.{node_count_lem}
use Rattle.silent.specs.CountTable.{CountIs, CountedFrom, Counting, DescendsBy}

-- Every other kind has no count.
no_chain : (n : Point) (f : Point → Expr) (k : Kind) (a b c : ℕ) → (k ≡ Null → ⊥) → (k ≡ Constant → ⊥) → (k ≡ Update → ⊥) → (k ≡ Call → ⊥) → (k ≡ Let → ⊥) → (k ≡ Cast → ⊥)
    → (k ≡ Unknown → ⊥) → chain (build n f (node_of k a b c)) ≡ 0
no_chain n f Null a b c h0 h10 h3 h4 h5 h7 u = absurd (h0 refl)
no_chain n f Variable a b c h0 h10 h3 h4 h5 h7 u = refl
no_chain n f Select a b c h0 h10 h3 h4 h5 h7 u = refl
no_chain n f Update a b c h0 h10 h3 h4 h5 h7 u = absurd (h3 refl)
no_chain n f Call a b c h0 h10 h3 h4 h5 h7 u = absurd (h4 refl)
no_chain n f Let a b c h0 h10 h3 h4 h5 h7 u = absurd (h5 refl)
no_chain n f New a b c h0 h10 h3 h4 h5 h7 u = refl
no_chain n f Cast a b c h0 h10 h3 h4 h5 h7 u = absurd (h7 refl)
no_chain n f Fork a b c h0 h10 h3 h4 h5 h7 u = refl
no_chain n f Lock a b c h0 h10 h3 h4 h5 h7 u = refl
no_chain n f Constant a b c h0 h10 h3 h4 h5 h7 u = absurd (h10 refl)
no_chain n f Sum a b c h0 h10 h3 h4 h5 h7 u = refl
no_chain n f Unknown a b c h0 h10 h3 h4 h5 h7 u = absurd (u refl)

module _ {s counts : List ℕ} {n : ℕ} (a : Counting s counts n) where
  -- a node that ends the chain
  pub count_end : (k : Kind) (r : ℕ) → kind_of (node_word s n 0) ≡ k → r ≤ 1 → chain (build n (expr_at s) (node_as s n k)) ≡ r → CountIs s n r
  count_end k r e l h = record { is = sym (ap chain (expr_as s a.layout n a.there k e) ∙ h); few = omega (arith, a.there) }

  pub count_rest :
      (k : Kind) → kind_of (node_word s n 0) ≡ k → (k ≡ Null → ⊥) → (k ≡ Constant → ⊥) → (k ≡ Update → ⊥) → (k ≡ Call → ⊥) → (k ≡ Let → ⊥) → (k ≡ Cast → ⊥)
      → CountIs s n 0
  count_rest k e h0 h10 h3 h4 h5 h7 =
      count_end k 0 e (omega arith)
      (no_chain n (expr_at s) k (node_word s n 1) (node_word s n 2) (node_word s n 3) h0 h10 h3 h4 h5 h7 (λ q. known s a.layout n a.there (e ∙ q)))

  -- one that descends
  pub descends_by : (k : Kind) (j : ℕ) → kind_of (node_word s n 0) ≡ k → j < 4 → node_word s n j ∈ parts (node_as s n k)
      → chain (build n (expr_at s) (node_as s n k)) ≡ suc (chain (expr_at s (node_word s n j))) → DescendsBy s n j
  descends_by k j e l m h = record { word = l; part = part_as s a.layout n a.there k e (node_word s n j) m; more = ap chain (expr_as s a.layout n a.there k e) ∙ h }

  module _ {j : ℕ} (d : DescendsBy s n j) where
    pub part_there : node_word s n j < length counts
    part_there = omega (arith, d.part.there, a.layout.counts_are.within nodes, a.behind.long)

    part_is : CountIs s (node_word s n j) (get_or counts (node_word s n j) 0)
    part_is = a.behind.counted (node_word s n j) (omega (arith, d.part.later)) d.part.there

    pub part_few : get_or counts (node_word s n j) 0 ≤ NODES
    part_few = omega (arith, part_is.few, a.layout.counts_are.within nodes)

    pub count_down : CountIs s n (1 + get_or counts (node_word s n j) 0)
    count_down = record { is = omega (arith, d.more, part_is.is); few = omega (arith, part_is.few, d.part.later) }

-- The table from n on, and the largest of its counts.
pub record TableFrom (s counts : List ℕ) (n most : ℕ) : Type 0 where
  pub within : n ≤ count_of s nodes
  pub table : CountedFrom s counts n
  pub most_is : most ≡ largest (run (silent_from (code_of s)) n (count_of s nodes - n))

module _ {s : List ℕ} (w : WithinLayout s) where
  pub table_none : {counts : List ℕ} {n : ℕ} → length counts ≡ NODES → n ≡ count_of s nodes → TableFrom s counts n 0
  unfolding run
  table_none {n = n} l e =
      let z : count_of s nodes - n ≡ 0 = omega arith in
      record {
        within = omega arith;
        table = record { long = l; counted = λ m h k. absurd (omega arith) };
        most_is = rw z refl;
      }

  pub table_all : {counts : List ℕ} {n most : ℕ} → TableFrom s counts n most → n ≡ 0 → CountedFrom s counts 0 × (most ≡ most_silent (code_of s))
  unfolding most_silent
  table_all {counts} {n} {most} h e =
      let z : count_of s nodes - n ≡ count_of s nodes = omega arith in
      (rw e at h.table, rw (z, e) at h.most_is)

  pub table_counting : {counts : List ℕ} {n most : ℕ} → TableFrom s counts n most → 0 < n → Counting s counts (n - 1)
  table_counting {n = n} h l =
      let z : n - 1 + 1 ≡ n = omega arith in
      record { layout = w; there = omega (arith, h.within); behind = rw z h.table }

  pub table_more : {counts : List ℕ} {n most count r : ℕ} → TableFrom s counts n most → 0 < n → CountIs s (n - 1) count → r ≡ max count most → TableFrom s (set counts (n - 1) count) (n - 1) r
  unfolding run
  table_more {counts} {n} {most} {count} {r} h l c e =
      record {
        within = omega (arith, h.within);
        table = record { long = simp length-set h.table.long; counted = λ m i j. there m i j (ℕ_discrete m (n - 1)) };
        most_is = e ∙ biggest;
      }
    where
      there : (m : ℕ) → n - 1 ≤ m → m < count_of s nodes → Dec (m ≡ n - 1) → CountIs s m (get_or (set counts (n - 1) count) m 0)
      there m i j (yes q) = rw (q, get_or-set_same counts (n - 1) count 0 (omega (arith, h.table.long, h.within, w.counts_are.within nodes))) c
      there m i j (no q) = rw (get_or-set_other counts (n - 1) m count 0 q) (h.table.counted m (omega arith) j)

      biggest : max count most ≡ largest (run (silent_from (code_of s)) (n - 1) (count_of s nodes - (n - 1)))
      biggest =
          let z : count_of s nodes - (n - 1) ≡ suc (count_of s nodes - n) = omega (arith, h.within) in
          let y : n - 1 + 1 ≡ n = omega arith in
          let q : silent_from (code_of s) (n - 1) ≡ count = node_count_lem (code_of s) (n - 1) (omega (arith, h.within)) ∙ sym c.is in
          rw (z, y, q, h.most_is) refl

  -- what the whole table has for a node
  pub table_has : {counts : List ℕ} {n : ℕ} → CountedFrom s counts 0 → n < count_of s nodes → get_or counts n 0 ≡ silent_from (code_of s) n
  table_has {counts} {n} h l = (h.counted n (omega arith) l).is ∙ sym (node_count_lem (code_of s) n l)
