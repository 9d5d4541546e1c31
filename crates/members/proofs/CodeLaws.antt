-- The facts about a script's nodes, which a Code's ghost field holds truncated.
use mathlib.Core.Path.{subst_refl}
use mathlib.Core.HLevel.{Σ_prop_path}
use mathlib.Core.Option.{is_set as Option-set}
use Rattle.std.proofs.Common.{◌≡◌, refl, sym, ◌∙◌, ap, subst, ℕ, zero, suc, ◌+◌, ◌≤◌, ◌⊎◌, inl, inr, List, get_or, arith}
use Rattle.std.proofs.Math.Logic.{∥∥₁_elim}
use Rattle.std.proofs.Props.{props}
use Rattle.names.specs.Ranks.{RANKS, Ranked, Indexed, SlotNames, Search, nowhere, at_slot, onward, slot_word, SLOTS}
use Rattle.names.specs.Facts.{Facts, Forks}

module _ (s facts : List ℕ) (x : ℕ) where
  -- A search comes to one answer.
  search_one : (i r q : ℕ) → Search s facts x i r → Search s facts x i q → r ≡ q
  search_one zero r q nowhere nowhere = refl
  search_one (suc k) r q (at_slot e) (at_slot f) = refl
  search_one (suc k) r q (at_slot e) (onward n b) = absurd (n e)
  search_one (suc k) r q (onward n a) (at_slot f) = absurd (n f)
  search_one (suc k) r q (onward n a) (onward m b) = search_one (get_or facts (SLOTS + k) 0) r q a b

  -- How a search goes on from a place, and that this tells all of it.
  abbrev Step : ℕ → ℕ → Type 0
  Step zero r = 0 ≡ r
  Step (suc k) r = ((slot_word s k ≡ x) × (suc k ≡ r)) ⊎ ((slot_word s k ≡ x → ⊥) × Search s facts x (get_or facts (SLOTS + k) 0) r)

  abbrev step_of : {i r : ℕ} → Search s facts x i r → Step i r
  step_of nowhere = refl
  step_of (at_slot e) = inl (e, refl)
  step_of (onward n a) = inr (n, a)

  abbrev of_step : (i r : ℕ) → Step i r → Search s facts x i r
  of_step zero r e = subst (λ (q : ℕ). Search s facts x 0 q) e nowhere
  of_step (suc k) r (inl (e, q)) = subst (λ (q : ℕ). Search s facts x (suc k) q) q (at_slot e)
  of_step (suc k) r (inr (n, a)) = onward n a

  of_step_of : {i r : ℕ} (a : Search s facts x i r) → of_step i r (step_of a) ≡ a
  of_step_of nowhere = subst_refl (λ (q : ℕ). Search s facts x 0 q) nowhere
  of_step_of (at_slot {k = k} e) = subst_refl (λ (q : ℕ). Search s facts x (suc k) q) (at_slot e)
  of_step_of (onward n a) = refl

  -- So it comes there in one way.
  one_step : {i r : ℕ} (a : Search s facts x i r) (t : Step i r) → a ≡ of_step i r t
  one_step nowhere t =
      let p : IsProp (◌≡◌ {A = ℕ} 0 0) = Prim.hlevel props in
      sym (of_step_of nowhere) ∙ ap (λ (e : ◌≡◌ {A = ℕ} 0 0). of_step 0 0 e) (p refl t)
  one_step (at_slot {k = k} e) (inl u) =
      let p : IsProp ((slot_word s k ≡ x) × (suc k ≡ suc k)) = Prim.hlevel props in
      sym (of_step_of (at_slot e)) ∙ ap (λ (e : (slot_word s k ≡ x) × (suc k ≡ suc k)). of_step (suc k) (suc k) (inl e)) (p (e, refl) u)
  one_step (at_slot e) (inr (n, b)) = absurd (n e)
  one_step (onward n a) (inl (f, q)) = absurd (n f)
  one_step (onward {k = k} n a) (inr (m, b)) =
      let p : IsProp (slot_word s k ≡ x → ⊥) = Prim.hlevel props in
      let q : a ≡ b = one_step a (step_of b) ∙ of_step_of b in
      λ j. onward (p n m j) (q j)

  search-prop : {i r : ℕ} → IsProp (Search s facts x i r)
  search-prop a b = one_step a (step_of b) ∙ of_step_of b

  found-prop : (i : ℕ) → IsProp ((m : ℕ) × Search s facts x i (suc m))
  found-prop i u v =
      let e : suc u.0 ≡ suc v.0 = search_one i (suc u.0) (suc v.0) u.1 v.1 in
      Σ_prop_path {B = λ (m : ℕ). Search s facts x i (suc m)} (λ m. search-prop) {u = u} {v = v} (omega arith)

-- The facts, with the most ranks that there can be, so that nothing about them is a choice.
record Known (s facts : List ℕ) : Type 0 where
  ranked : Ranked s facts RANKS
  indexed : Indexed s facts
  forks : Forks s facts

known : {s facts : List ℕ} → Facts s facts → Known s facts
known x =
    record {
      ranked = record {
        size = x.ranked.size;
        few = omega arith;
        below = λ {x = y} {k} r. omega (arith, x.ranked.below r, x.ranked.few);
        same = x.ranked.same;
        apart = x.ranked.apart;
      };
      indexed = x.indexed;
      forks = x.forks;
    }

Known-prop : (s facts : List ℕ) → IsProp (Known s facts)
Known-prop s facts =
    let names : IsProp ((i k : ℕ) → SLOTS ≤ i → get_or facts i 0 ≡ suc k → SlotNames s k (slot_word s k)) = Prim.hlevel (props, Option-set) in
    Prim.hlevel (props, names, found-prop s facts)

-- A Code has the facts.
pub facts_of : {s facts : List ℕ} → ∥ Facts s facts ∥₁ → Facts s facts
facts_of {s} {facts} h =
    let x : Known s facts = ∥∥₁_elim h (Known-prop s facts) known in
    record { count = RANKS; ranked = x.ranked; indexed = x.indexed; forks = x.forks }
