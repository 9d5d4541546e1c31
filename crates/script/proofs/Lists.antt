-- Laws of lists that are read off numbered records.
use mathlib.Core.Path.{◌≡◌, refl, sym, ap, ◌∙◌}
use mathlib.Core.Bool.{Bool, true, false, cond}
use mathlib.Core.List.Memᴰ
use mathlib.Core.List.{List, [], ◌∷◌, ◌++◌}
use mathlib.Core.Logic.{◌⊎◌, ⊎_elim, inl, inr}
use mathlib.Core.Option.{none, some}
use Prim.Native.Nat.{ℕ, zero, suc, ◌+◌, ◌<◌, ◌≤◌}
use native.Mathlib.Omega.{arith}
use native.Mathlib.Nat.{eq-or-lt_of_le, le_of_suc-le-suc}
use native.Mathlib.Numerals.{add-one}
use lib.Dec.{eqb, ltb}
use lib.ListN.{length, get_or, replicate}
use borrow.Author.Tests.{eqb-true, eqb-false, eq-eqb, ne_eqb, ltb-true, ltb-false}
use Rattle.script.specs.Lists.{◌∈◌, Every, run, sum_below, named, count_in}
use Rattle.script.specs.Regular.{Unique, no_more, one_more}

-- what follows of each element
pub every_map : {A : Type 0} (P Q : A → Type 0) → ((a : A) → P a → Q a) → (l : List A) → Every P l → Every Q l
every_map P Q f [] e = tt
every_map P Q f (a ∷ l) e = (f a e.0, every_map P Q f l e.1)

pub every_in : {A : Type 0} (P : A → Type 0) (l : List A) → Every P l → (x : A) → x ∈ l → P x
every_in P [] e x m = absurd (Memᴰ.not-nil m)
every_in P (y ∷ l) e x m = ⊎_elim (λ (h : x ≡ y). rw h e.0) (every_in P l e.1 x) (Memᴰ.cases_cons m)

-- zeros read as 0, past their end too
pub zeros : (n i : ℕ) → ◌≡◌ {A = ℕ} (get_or (replicate n 0) i 0) 0
zeros zero i = refl
zeros (suc n) zero = refl
zeros (suc n) (suc i) = zeros n i

pub length_run : {A : Type 0} (f : ℕ → A) (i k : ℕ) → length (run f i k) ≡ k
unfolding run
length_run f i zero = refl
length_run f i (suc k) = ap suc (length_run f (i + 1) k)

-- element j of a run is record i + j
pub get_d_run : {A : Type 0} (f : ℕ → A) (i k j : ℕ) (d : A) → j < k → get_or (run f i k) j d ≡ f (i + j)
unfolding run
get_d_run f i zero j d h = absurd (omega arith)
get_d_run f i (suc k) zero d h = let e : i + 0 ≡ i = omega arith in rw e
get_d_run f i (suc k) (suc j) d h = let e : i + suc j ≡ i + 1 + j = omega arith in rw e (get_d_run f (i + 1) k j d (omega arith))

-- runs are the same where their records are
pub run_same : {A : Type 0} (f g : ℕ → A) (i n : ℕ) → ((j : ℕ) → i ≤ j → j < i + n → f j ≡ g j) → run f i n ≡ run g i n
unfolding run
run_same f g i zero e = refl
run_same f g i (suc n) e = let h = e i (omega arith) (omega arith) in let t = run_same f g (i + 1) n (λ j l u. e j (omega arith) (omega arith)) in cc

-- what stands in a run is one of its records
pub record AtIndex {A : Type 0} (f : ℕ → A) (i k : ℕ) (a : A) : Type 0 where
  pub index : ℕ
  pub from : i ≤ index
  pub upto : index < i + k
  pub is : a ≡ f index

next_index : {A : Type 0} (f : ℕ → A) (i k : ℕ) (a : A) → AtIndex f (i + 1) k a → AtIndex f i (suc k) a
next_index f i k a x = record { index = x.index; from = omega (arith, x.from); upto = omega (arith, x.upto); is = x.is }

pub in_run : {A : Type 0} (f : ℕ → A) (i k : ℕ) (a : A) → a ∈ run f i k → AtIndex f i k a
unfolding run
in_run f i zero a m = absurd (Memᴰ.not-nil m)
in_run f i (suc k) a m =
    ⊎_elim
    (λ (e : a ≡ f i). record { index = i; from = omega arith; upto = omega arith; is = e })
    (λ (t : a ∈ run f (i + 1) k). next_index f i k a (in_run f (i + 1) k a t))
    (Memᴰ.cases_cons m)

-- and each record of a run stands in it
pub run_has : {A : Type 0} (f : ℕ → A) (i k j : ℕ) → i ≤ j → j < i + k → f j ∈ run f i k
unfolding run
run_has f i zero j a b = absurd (omega arith)
run_has f i (suc k) j a b =
    ⊎_elim
    (λ (e : i ≡ j). Memᴰ.head (ap f (sym e)))
    (λ (l : i < j). Memᴰ.tail (run_has f (i + 1) k j (omega arith) (omega arith)))
    (eq-or-lt_of_le a)

-- a run whose records have no name twice
pub run_unique :
    {A : Type 0} (f : ℕ → A) (name : A → ℕ) (i k : ℕ)
    → ((j h : ℕ) → i ≤ j → j < h → h < i + k → name (f j) ≡ name (f h) → ⊥)
    → Unique name (run f i k)
unfolding run
run_unique f name i zero u = no_more
run_unique f name i (suc k) u =
    one_more
    (λ b m e. let x = in_run f (i + 1) k b m in u i x.index (omega arith) (omega (arith, x.from)) (omega (arith, x.upto)) (e ∙ ap name x.is))
    (run_unique f name (i + 1) k (λ j h p q r e. u j h (omega arith) q (omega arith) e))

-- numbers added one after the other: before the first, and one more
pub sum_start : (f : ℕ → ℕ) → 0 ≡ sum_below f 0
unfolding sum_below
sum_start f = refl

pub sum_next : (f : ℕ → ℕ) (i sum r : ℕ) → sum ≡ sum_below f i → r ≡ f i → sum + r ≡ sum_below f (i + 1)
unfolding sum_below
sum_next f i sum r p q = rw (add-one i, p, q)

-- a run begins where the one before it ends, so those of the first n owners stand below where the run of owner n begins
pub sum_more : (f : ℕ → ℕ) (i n : ℕ) → i < n → sum_below f i + f i ≤ sum_below f n
unfolding sum_below
sum_more f i zero h = absurd (omega arith)
sum_more f i (suc n) h =
    ⊎_elim
    (λ (e : i ≡ n). rw e (omega arith))
    (λ (l : i < n). omega (arith, sum_more f i n l))
    (eq-or-lt_of_le (le_of_suc-le-suc h))

-- the owner of record i, the runs of n owners taken together having more than i records
pub record OwnerOf (f : ℕ → ℕ) (n i : ℕ) : Type 0 where
  pub owner : ℕ
  pub among : owner < n
  pub from : sum_below f owner ≤ i
  pub upto : i < sum_below f owner + f owner

pub lt_or_le : (a b : ℕ) → (a < b) ⊎ (b ≤ a)
lt_or_le a b = go (ltb a b) refl
  where
    go : (q : Bool) → ltb a b ≡ q → (a < b) ⊎ (b ≤ a)
    go true e = inl (ltb-true a b e)
    go false e = inr (ltb-false a b e)

pub owner_of_lem : (f : ℕ → ℕ) (n i : ℕ) → i < sum_below f n → OwnerOf f n i
unfolding sum_below
owner_of_lem f zero i h = absurd (omega arith)
owner_of_lem f (suc n) i h =
    ⊎_elim
    (λ (l : i < sum_below f n). let o = owner_of_lem f n i l in record { owner = o.owner; among = omega (arith, o.among); from = o.from; upto = o.upto })
    (λ (g : sum_below f n ≤ i). record { owner = n; among = omega arith; from = g; upto = h })
    (lt_or_le i (sum_below f n))

-- counting in two lists, one after the other
pub count_append : (x : ℕ) (l m : List ℕ) → count_in x (l ++ m) ≡ count_in x l + count_in x m
unfolding count_in
count_append x [] m = omega arith
count_append x (y ∷ l) m = go (eqb y x) (count_append x l m)
  where
    go : (b : Bool) → count_in x (l ++ m) ≡ count_in x l + count_in x m
        → cond b (suc (count_in x (l ++ m))) (count_in x (l ++ m)) ≡ cond b (suc (count_in x l)) (count_in x l) + count_in x m
    go true e = omega arith
    go false e = omega arith

-- what is found under a name has it and stands in the list, and nothing has it where nothing is found
module _ {A : Type 0} (name : A → ℕ) (x : ℕ) where
  pub named_in : (l : List A) (a : A) → named name x l ≡ some a → (a ∈ l) × (name a ≡ x)
  unfolding named
  named_in [] a e = absurd (let z : ◌≡◌ {A = ℕ} 0 1 = cc in omega arith)
  named_in (b ∷ l) a e = go (eqb (name b) x) refl (named_in l a) e
    where
      go : (q : Bool) → eqb (name b) x ≡ q → (named name x l ≡ some a → (a ∈ l) × (name a ≡ x)) → cond q (some b) (named name x l) ≡ some a → (a ∈ b ∷ l) × (name a ≡ x)
      go true q ih h = let d : a ≡ b = cc in (Memᴰ.head d, ap name d ∙ eqb-true (name b) x q)
      go false q ih h = (Memᴰ.tail (ih h).0, (ih h).1)

  pub named_none : (l : List A) (a : A) → named name x l ≡ none → a ∈ l → name a ≡ x → ⊥
  unfolding named
  named_none [] a e m n = Memᴰ.not-nil m
  named_none (b ∷ l) a e m n = go (eqb (name b) x) refl (named_none l a) e (Memᴰ.cases_cons m)
    where
      go : (q : Bool) → eqb (name b) x ≡ q → (named name x l ≡ none → a ∈ l → name a ≡ x → ⊥) → cond q (some b) (named name x l) ≡ none → (a ≡ b) ⊎ (a ∈ l) → ⊥
      go true q ih h k = let z : ◌≡◌ {A = ℕ} 0 1 = cc in omega arith
      go false q ih h (inl d) = eqb-false (name b) x q (sym (ap name d) ∙ n)
      go false q ih h (inr k) = ih h k n

  -- and where names are unique, whatever has the name is what is found
  pub named_unique : (l : List A) (a : A) → Unique name l → a ∈ l → name a ≡ x → named name x l ≡ some a
  unfolding named
  named_unique [] a u m n = absurd (Memᴰ.not-nil m)
  named_unique (b ∷ l) a (one_more f u) m n =
      ⊎_elim
      (λ (d : a ≡ b). rw (eq-eqb (name b) x (sym (ap name d) ∙ n), d))
      (λ (k : a ∈ l). rw (ne_eqb (name b) x (λ e. f a k (e ∙ sym n))) (named_unique l a u k n))
      (Memᴰ.cases_cons m)
