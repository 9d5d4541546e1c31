-- The table of an environment: filled along its chain, and made zeros again.
use mathlib.Core.Path.{◌≡◌, refl, sym, ap, ◌∙◌}
use mathlib.Core.List.{List, ◌∷◌, map}
use Prim.Native.Nat.{ℕ, zero, suc, ◌+◌, ◌-◌, ◌<◌, ◌≤◌}
use native.Mathlib.Omega.{arith}
use native.Mathlib.Decide.{ℕ_discrete, dec_lt}
use borrow.Author.Tests.{eq-eqb, ne_eqb}
use lib.ListN.{length, get_or, set, length-set, get_or-eq_default}
use lib.Seq.{get_or-set_same, get_or-set_other}
use Rattle.words.specs.Word.{WORD}
use Rattle.limits.specs.Limits.{BINDINGS}
use Rattle.script.specs.Lists.{named}
use Rattle.script.specs.Syntax.{Slot}
use Rattle.slices.specs.Zero.{AllZero}
use Rattle.typing.specs.Members.{type_in}
use Rattle.std.specs.declared.option.Option.{Option as CodeOption}
use Rattle.std.specs.declared.option.Option.TheVariants.{Some, None}
use Rattle.names.specs.Ranks.{RankOf}
use Rattle.names.specs.Filling.{RankIs}
use Rattle.names.specs.Facts.{Facts}
use Rattle.inference.specs.Tables.{bound_word}
use Rattle.machine.specs.Machine.{scope, slot, context}
use Rattle.soundness.proofs.Stores.{scope_empty}
use Rattle.block.specs.declared.Area.TheVariants.{Bindings}
use Rattle.block.specs.Layout.{word_in, NAME, TYPE, LINK}
use Rattle.environments.specs.Chains.{binding_count, binding_at, bindings_in, Chain, Typed, Filled, stored_or, TypeStored}
use Rattle.environments.proofs.ChainLaws.{chain_link}

-- A variable's type is noted: it has no rank, or the word at its rank stands, or is 0 and is stored over.
pub noted_absent : {s facts : List ℕ} (table : List ℕ) (name t : ℕ) (r : CodeOption ℕ) → RankIs s facts name r → r ≡ None → TypeStored s facts table name t table
noted_absent {s} {facts} table name t r g e =
    let h : (k : ℕ) → RankOf s facts name k → ⊥ = rw e at g in
    record { size = refl; here = λ k j. absurd (h k j); elsewhere = λ x k j n. refl }

pub ranked_at : {s facts : List ℕ} (name i : ℕ) (r : CodeOption ℕ) → RankIs s facts name r → r ≡ Some i → RankOf s facts name i
ranked_at name i r g e = rw e at g

module _ {s facts : List ℕ} (f : Facts s facts) (table : List ℕ) (name t i : ℕ) (h : RankOf s facts name i) where
  pub noted_before : (get_or table i 0 ≡ 0 → ⊥) → TypeStored s facts table name t table
  noted_before n =
      record { size = refl; here = λ k j. let same : k ≡ i = f.ranked.same j h in rw same (kept (get_or table i 0) n); elsewhere = λ x k j m. refl }
    where
      kept : (w : ℕ) → (w ≡ 0 → ⊥) → w ≡ stored_or w (suc t)
      kept zero n = absurd (n refl)
      kept (suc w) n = refl

  pub noted_new : i < length table → get_or table i 0 ≡ 0 → TypeStored s facts table name t (set table i (t + 1))
  noted_new l z =
      let s : t + 1 ≡ suc t = omega arith in
      record {
        size = length-set table i (t + 1);
        here = λ k j. let same : k ≡ i = f.ranked.same j h in rw same (get_or-set_same table i (t + 1) 0 l ∙ rw (z, s));
        elsewhere = λ x k j n. get_or-set_other table i k (t + 1) 0 (λ e. n (f.ranked.apart (rw e at j) h));
      }

-- the type of a variable, with one more in front
own_type : (d : Slot) (Γ : List Slot) (x : ℕ) → x ≡ d.name → bound_word (type_in (d ∷ Γ) x) ≡ suc d.type
unfolding type_in named
own_type d Γ x e = rw (eq-eqb d.name x (sym e))

other_type : (d : Slot) (Γ : List Slot) (x : ℕ) → (x ≡ d.name → ⊥) → type_in (d ∷ Γ) x ≡ type_in Γ x
unfolding type_in named
other_type d Γ x n = rw (ne_eqb d.name x (λ e. n (sym e)))

or_twice : (a t r : ℕ) → stored_or (stored_or a (suc t)) r ≡ stored_or a (suc t)
or_twice zero t r = refl
or_twice (suc a) t r = refl

or_none : (a : ℕ) → stored_or a 0 ≡ a
or_none zero = refl
or_none (suc a) = refl

-- A walk that fills a table along the chain of env, come to e.
pub record Filling (s facts b before table : List ℕ) (env e : ℕ) : Type 0 where
  pub within : e ≤ binding_count b
  pub size : length table ≡ length before
  pub rest :
      (x k : ℕ) → RankOf s facts x k
      → stored_or (get_or table k 0) (bound_word (type_in (context (bindings_in b) e) x)) ≡ bound_word (type_in (context (bindings_in b) env) x)

module _ {b : List ℕ} {env : ℕ} (ch : Chain b env) where
  pub reached : {e : ℕ} → e ≤ binding_count b → 0 < e → e - 1 < BINDINGS
  reached w more = omega (arith, w, ch.few)

  pub nearer : {e : ℕ} → e ≤ binding_count b → 0 < e → (link : ℕ) → link ≡ word_in b Bindings (e - 1) LINK → link < e
  nearer {e} w more link l = omega (arith, w, ch.links (e - 1) (omega (arith, w)))

  pub typed : {e : ℕ} → Typed b → e ≤ binding_count b → 0 < e → (t : ℕ) → t ≡ word_in b Bindings (e - 1) TYPE → t + 1 < WORD
  typed {e} ty w more t h = rw h (ty (e - 1) (omega (arith, w)))

  front : {e : ℕ} → e ≤ binding_count b → 0 < e
      → context (bindings_in b) e ≡ slot (binding_at b (e - 1)) ∷ context (bindings_in b) (binding_at b (e - 1)).link
  front {e} w more =
      let s : suc (e - 1) ≡ e = omega arith in
      ap (map slot) (ap (scope (bindings_in b)) (sym s) ∙ chain_link b env (e - 1) ch (omega (arith, w)))

  module _ {s facts : List ℕ} where
    pub fill_begun : {table : List ℕ} → AllZero table → Filling s facts b table table env env
    fill_begun z = record { within = ch.within; size = refl; rest = λ x k h. rw (z.zero k) }

    pub fill_more :
        {before table after : List ℕ} {e : ℕ} (name t link : ℕ)
        → Filling s facts b before table env e
        → 0 < e
        → name ≡ word_in b Bindings (e - 1) NAME
        → t ≡ word_in b Bindings (e - 1) TYPE
        → TypeStored s facts table name t after
        → link ≡ word_in b Bindings (e - 1) LINK
        → Filling s facts b before after env link
    fill_more {table = table} {after = after} {e = e} name t link f more hn ht n hl =
        record {
          within = omega (arith, nearer f.within more link hl, f.within);
          size = n.size ∙ f.size;
          rest = λ x k h. elim (ℕ_discrete x name) [ yes q ↦ own x k h q | no q ↦ other x k h q ];
        }
      where
        now : ℕ → ℕ
        now x = bound_word (type_in (context (bindings_in b) env) x)

        later : ℕ → ℕ
        later x = bound_word (type_in (context (bindings_in b) link) x)

        mine : Slot
        mine = slot (binding_at b (e - 1))

        was : (x k : ℕ) → RankOf s facts x k → stored_or (get_or table k 0) (bound_word (type_in (mine ∷ context (bindings_in b) link) x)) ≡ now x
        was x k h = rw hl (rw (front f.within more) at (f.rest x k h))

        own : (x k : ℕ) → RankOf s facts x k → x ≡ name → stored_or (get_or after k 0) (later x) ≡ now x
        own x k h q =
            let there : get_or after k 0 ≡ stored_or (get_or table k 0) (suc t) = n.here k (rw q at h) in
            let type : bound_word (type_in (mine ∷ context (bindings_in b) link) x) ≡ suc t = own_type mine (context (bindings_in b) link) x (q ∙ hn) ∙ ap suc (sym ht) in
            rw (there, or_twice (get_or table k 0) t (later x)) (rw type at (was x k h))

        other : (x k : ℕ) → RankOf s facts x k → (x ≡ name → ⊥) → stored_or (get_or after k 0) (later x) ≡ now x
        other x k h q =
            let theirs : type_in (mine ∷ context (bindings_in b) link) x ≡ type_in (context (bindings_in b) link) x = other_type mine (context (bindings_in b) link) x (λ m. q (m ∙ sym hn)) in
            rw (n.elsewhere x k h q) (rw theirs at (was x k h))

    pub fill_done : {before table : List ℕ} {e : ℕ} → Filling s facts b before table env e → (0 < e → ⊥) → Filled s facts table (context (bindings_in b) env)
    unfolding type_in named
    fill_done {table = table} {e = e} f h x k j =
        let z : e ≡ 0 = omega arith in
        sym (or_none (get_or table k 0)) ∙ rw (z, scope_empty (bindings_in b)) at (f.rest x k j)

-- A table whose first n words are made zeros.
pub record Emptied (before table : List ℕ) (n : ℕ) : Type 0 where
  pub size : length table ≡ length before
  pub zeros : (k : ℕ) → k < n → get_or table k 0 ≡ 0

pub emptied_none : (table : List ℕ) → Emptied table table 0
emptied_none table = record { size = refl; zeros = λ k h. absurd (omega arith) }

module _ {before table : List ℕ} {n : ℕ} (f : Emptied before table n) where
  pub emptied_more : n < length table → Emptied before (set table n 0) (n + 1)
  emptied_more h =
      record {
        size = length-set table n 0 ∙ f.size;
        zeros = λ k l. elim (ℕ_discrete k n) [ yes e ↦ rw e (get_or-set_same table n 0 0 h) | no e ↦ get_or-set_other table n k 0 0 e ∙ f.zeros k (omega arith) ];
      }

  pub emptied_all : length table ≤ n → AllZero table
  emptied_all h = record { zero = λ k. elim (dec_lt k (length table)) [ yes l ↦ f.zeros k (omega arith) | no l ↦ get_or-eq_default table 0 {n = k} (omega arith) ] }
