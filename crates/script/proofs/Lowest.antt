-- What `first_out_of`, `lowest_in` and `first_no` answer.
use mathlib.Core.Path.{◌≡◌, refl}
use mathlib.Core.Bool.{Bool, cond}
use mathlib.Core.List.{List, [], ◌∷◌}
use mathlib.Core.Logic.{⊎_elim, inl, inr}
use mathlib.Core.Option.{Option, none, some}
use Prim.Native.Nat.{ℕ, zero, suc, ◌+◌, ◌<◌, ◌≤◌}
use native.Mathlib.Omega.{arith}
use native.Mathlib.Nat.{eq-or-lt_of_le, mul-le-mul_left}
use Rattle.limits.specs.Limits.{CONTENTS}
use Rattle.script.specs.declared.Question.{Question}
use Rattle.script.specs.Section.{Section, sections, size_of, count_of, end_of, record_at}
use Rattle.script.specs.declared.Refusal.{Refusal}
use Rattle.script.specs.Asking.{Asked, first_no, at_zero, first_out_of, place_or, lowest_in, Decides, holds, fails, Asks, Each, FaultAt, LowestNo, Lowest, all_good, lowest_at}
use Rattle.script.specs.Statements.{Placed, PlacesAre}

-- Of the k records from i on: all are good, or j is the first that is not.
pub data FirstOut (Good : ℕ → Type 0) (i k : ℕ) : Option ℕ → Type 0 where
  none_out : ((j : ℕ) → i ≤ j → j < i + k → Good j) → FirstOut Good i k none
  out_at : {j : ℕ} → i ≤ j → j < i + k → (Good j → ⊥) → ((h : ℕ) → i ≤ h → h < j → Good h) → FirstOut Good i k (some j)

module _ (Good : ℕ → Type 0) (i : ℕ) where
  -- What is good from i + 1 on is good from i on if i is.
  one_before : Good i → (n : ℕ) → ((j : ℕ) → i + 1 ≤ j → j < n → Good j) → (j : ℕ) → i ≤ j → j < n → Good j
  one_before g n f j a b = ⊎_elim (λ (e : i ≡ j). rw e at g) (λ (l : i < j). f j (omega arith) b) (eq-or-lt_of_le a)

  -- One record more, before the others: it is good, or it is tested.
  good_first : {k : ℕ} {o : Option ℕ} → Good i → FirstOut Good (i + 1) k o → FirstOut Good i (suc k) o
  good_first {k} g (none_out f) = none_out (one_before g (i + suc k) (λ j a b. f j a (omega arith)))
  good_first g (out_at {j = j} a b bad f) = out_at {j = j} (omega arith) (omega arith) bad (one_before g j f)

  test_first : {b : Bool} {k : ℕ} {o : Option ℕ} → Decides (Good i) b → (Good i → FirstOut Good (i + 1) k o) → FirstOut Good i (suc k) (cond b o (some i))
  test_first (holds g) f = good_first g (f g)
  test_first (fails bad) f = out_at {j = i} (omega arith) (omega arith) bad (λ h a b. absurd (omega arith))

-- `first_out_of` finds the first record that is not good, if the test decides each record before which all are good.
pub first_out :
    (test : ℕ → Bool) (Good : ℕ → Type 0) (i k : ℕ)
    → ((j : ℕ) → i ≤ j → j < i + k → ((h : ℕ) → i ≤ h → h < j → Good h) → Decides (Good j) (test j))
    → FirstOut Good i k (first_out_of test i k)
unfolding first_out_of
first_out test Good i zero d = none_out (λ j a b. absurd (omega arith))
first_out test Good i (suc k) d =
    test_first Good i
    (d i (omega arith) (omega arith) (λ h a b. absurd (omega arith)))
    (λ g. first_out test Good (i + 1) k (λ j a b f. d j (omega arith) (omega arith) (one_before Good i g j f)))

-- A later record of a section has no lower place.
record_rises : (s : List ℕ) (k : Section) (i j : ℕ) → i ≤ j → record_at s k i ≤ record_at s k j
unfolding record_at
record_rises s k i j h = omega (arith, mul-le-mul_left (size_of k) h)

-- A question asks some of these sections, in this order, and each of its tests decides what is asked of a record if all before it in its section are good.
pub data Tested (s : List ℕ) : List (Section × (ℕ → Bool)) → Asks → List Section → Type 1 where
  no_more : Tested s [] [] []
  asked :
      {k : Section} {test : ℕ → Bool} {Good : ℕ → Type 0} {ts : List (Section × (ℕ → Bool))} {l : Asks} {ks : List Section}
      → ((i : ℕ) → i < count_of s k → ((j : ℕ) → j < i → Good j) → Decides (Good i) (test i))
      → Tested s ts l ks
      → Tested s ((k, test) ∷ ts) ((k, Good) ∷ l) (k ∷ ks)
  passed : {k : Section} {ts : List (Section × (ℕ → Bool))} {l : Asks} {ks : List Section} → Tested s ts l ks → Tested s ts l (k ∷ ks)

module _ (s : List ℕ) where
  -- Sections that are so placed have no record before that place.
  fault_after : (at : ℕ) {ts : List (Section × (ℕ → Bool))} {l : Asks} {ks : List Section} → Placed s at ks → Tested s ts l ks → (place : ℕ) → FaultAt s l place → at ≤ place
  unfolding end_of record_at
  fault_after at p no_more place f = absurd f
  fault_after at p (asked {k = k} d m) place f =
      ⊎_elim (λ x. omega (arith, x.there)) (λ y. omega (arith, fault_after (end_of s k) p.1 m place y)) f
  fault_after at p (passed {k = k} m) place f = omega (arith, fault_after (end_of s k) p.1 m place f)

  -- One section more, before the others.
  section_first :
      (k : Section) (Good : ℕ → Type 0) {l : Asks} {o r : Option ℕ}
      → ((place : ℕ) → FaultAt s l place → end_of s k ≤ place)
      → FirstOut Good 0 (count_of s k) o
      → Lowest s l r
      → Lowest s ((k, Good) ∷ l) (place_or s k o r)
  unfolding end_of record_at
  section_first k Good after (none_out f) (all_good g) = all_good (λ i h. f i (omega arith) (omega arith), g)
  section_first k Good after (none_out f) (lowest_at n) =
      lowest_at (record { fault = inr n.fault; lowest = λ other. ⊎_elim (λ x. absurd (x.bad (f x.index (omega arith) (omega (arith, x.within))))) (n.lowest other) })
  section_first k Good after (out_at {j = h} a b bad f) r =
      lowest_at
      (record {
        fault = inl (record { index = h; within = omega arith; there = refl; bad = bad });
        lowest =
            λ other.
            ⊎_elim
            (λ x. let n : x.index < h → ⊥ = λ e. x.bad (f x.index (omega arith) e) in rw (← x.there) (record_rises s k h x.index (omega arith)))
            (λ y. omega (arith, after other y, record_rises s k h (count_of s k) (omega arith)));
      })

  lowest_among : (at : ℕ) {ts : List (Section × (ℕ → Bool))} {l : Asks} {ks : List Section} → Placed s at ks → Tested s ts l ks → Lowest s l (lowest_in s ts)
  unfolding lowest_in
  lowest_among at p no_more = all_good tt
  lowest_among at p (asked {k = k} {test = test} {Good = Good} d m) =
      section_first k Good
      (fault_after (end_of s k) p.1 m)
      (first_out test Good 0 (count_of s k) (λ i a b f. d i (omega arith) (λ j l. f j (omega arith) l)))
      (lowest_among (end_of s k) p.1 m)
  lowest_among at p (passed {k = k} m) = lowest_among (end_of s k) p.1 m

  -- `lowest_in` finds the lowest record of which what is asked does not hold.
  pub lowest : {ts : List (Section × (ℕ → Bool))} {l : Asks} → PlacesAre s → Tested s ts l sections → Lowest s l (lowest_in s ts)
  lowest p m = lowest_among CONTENTS p m

-- Where a statement holds of each record none is at fault.
pub fault_not : (s : List ℕ) (l : Asks) (place : ℕ) → FaultAt s l place → Each s l → ⊥
fault_not s [] place f g = f
fault_not s (a ∷ l) place f g = ⊎_elim (λ x. x.bad (g.0 x.index x.within)) (λ y. fault_not s l place y g.1) f

pub lowest_none : {s : List ℕ} {l : Asks} {o : Option ℕ} → Lowest s l o → Each s l → o ≡ none
lowest_none (all_good f) g = refl
lowest_none {s} {l} (lowest_at {place = place} n) g = absurd (fault_not s l place n.fault g)

-- The first no of a list of questions is a no to the first of them, or the first no of the others after a yes to it.
module _ (Says : Option Refusal → Type 0) (q : Question) (l : List Asked) where
  -- A question about the whole script: a no to it has place 0.
  pub ask_whole :
      {P : Type 0} {b : Bool}
      → Decides P b
      → ((P → ⊥) → Says (some (record { question = q; place = 0 })))
      → (P → Says (first_no l))
      → Says (first_no (record { question = q; no_at = at_zero b } ∷ l))
  unfolding first_no
  ask_whole (holds p) n y = y p
  ask_whole (fails b) n y = n b

  -- A question about records: a no to it has the place of the lowest at fault.
  pub ask_records :
      {s : List ℕ} {a : Asks} {o : Option ℕ}
      → Lowest s a o
      → ((place : ℕ) → LowestNo s a place → Says (some (record { question = q; place = place })))
      → (Each s a → Says (first_no l))
      → Says (first_no (record { question = q; no_at = o } ∷ l))
  unfolding first_no
  ask_records (all_good f) n y = y f
  ask_records (lowest_at {place = place} x) n y = n place x
