-- Laws for loops that search. The invariant is that the answer for what is left is the answer for the whole: `whole ≡ first_out_of test i (n - i)`.
use mathlib.Core.Path.{◌≡◌, refl, sym, ◌∙◌}
use mathlib.Core.Bool.{Bool, true, false, cond, not, ◌||◌}
use mathlib.Core.List.{List, [], ◌∷◌}
use mathlib.Core.Option.{Option, none, some}
use Prim.Native.Nat.{ℕ, zero, suc, ◌+◌, ◌-◌, ◌<◌, ◌≤◌}
use native.Mathlib.Omega.{arith}
use lib.Dec.{eqb}
use borrow.Author.Tests.{eq-eqb, ne_eqb}
use Rattle.std.specs.declared.result.Result.{Result}
use Rattle.std.specs.declared.result.Result.TheVariants.{Ok, Err}
use Rattle.std.specs.declared.option.Option.{Option as CodeOption}
use Rattle.std.specs.declared.option.Option.TheVariants.{Some, None}
use Rattle.script.specs.declared.Section.{Section}
use Rattle.script.specs.Section.{count_of, record_at, record_word}
use Rattle.script.specs.Asking.{first_out_of, place_or, lowest_in}
use Rattle.script.specs.Questions.{has_name}
use Rattle.sections.specs.Laid.{found_of, passed_of, name_of, other_name, new_in}

-- What is found says what the search answers.
pub nothing_is : (o : Option ℕ) → None ≡ found_of o → o ≡ none
nothing_is none e = refl
nothing_is (some i) e = absurd (let z : ◌≡◌ {A = ℕ} 0 1 = cc in omega arith)

pub at_is : (o : Option ℕ) (i : ℕ) → Some i ≡ found_of o → o ≡ some i
at_is none i e = absurd (let z : ◌≡◌ {A = ℕ} 0 1 = cc in omega arith)
at_is (some j) i e = cc

module _ (test : ℕ → Bool) where
  -- What is found among some records and then among those after them.
  pub out_none : (i a b : ℕ) → first_out_of test i a ≡ none → first_out_of test i (a + b) ≡ first_out_of test (i + a) b
  unfolding first_out_of
  out_none i zero b e = let y : 0 + b ≡ b = omega arith in let z : i + 0 ≡ i = omega arith in rw (y, z)
  out_none i (suc a) b e = go (test i) refl (out_none (i + 1) a b) e
    where
      go : (t : Bool) → test i ≡ t → (first_out_of test (i + 1) a ≡ none → first_out_of test (i + 1) (a + b) ≡ first_out_of test (i + 1 + a) b) → cond t (first_out_of test (i + 1) a) (some i) ≡ none → first_out_of test i (suc a + b) ≡ first_out_of test (i + suc a) b
      go true q f h = let x : suc a + b ≡ suc (a + b) = omega arith in let y : i + suc a ≡ i + 1 + a = omega arith in rw (x, q, y) (f h)
      go false q f h = absurd (let z : ◌≡◌ {A = ℕ} 0 1 = cc in omega arith)

  pub out_some : (i a b j : ℕ) → first_out_of test i a ≡ some j → first_out_of test i (a + b) ≡ some j
  unfolding first_out_of
  out_some i zero b j e = absurd (let z : ◌≡◌ {A = ℕ} 0 1 = cc in omega arith)
  out_some i (suc a) b j e = go (test i) refl (out_some (i + 1) a b j) e
    where
      go : (t : Bool) → test i ≡ t → (first_out_of test (i + 1) a ≡ some j → first_out_of test (i + 1) (a + b) ≡ some j) → cond t (first_out_of test (i + 1) a) (some i) ≡ some j → first_out_of test i (suc a + b) ≡ some j
      go true q f h = let x : suc a + b ≡ suc (a + b) = omega arith in rw (x, q) (f h)
      go false q f h = let x : suc a + b ≡ suc (a + b) = omega arith in rw (x, q) h

  -- What is found is one of the records.
  pub out_below : (i k j : ℕ) → first_out_of test i k ≡ some j → j < i + k
  unfolding first_out_of
  out_below i zero j e = absurd (let z : ◌≡◌ {A = ℕ} 0 1 = cc in omega arith)
  out_below i (suc k) j e = go (test i) (out_below (i + 1) k j) e
    where
      go : (b : Bool) → (first_out_of test (i + 1) k ≡ some j → j < i + 1 + k) → cond b (first_out_of test (i + 1) k) (some i) ≡ some j → j < i + suc k
      go true f h = omega (arith, f h)
      go false f h = let q : i ≡ j = cc in omega arith

  -- A loop that starts with the first record.
  pub search_start : (n : ℕ) → first_out_of test 0 n ≡ first_out_of test 0 (n - 0)
  search_start n = let z : n - 0 ≡ n = omega arith in rw z

  -- A loop that goes through the records from i on up to n.
  module _ (whole : Option ℕ) (i n : ℕ) (left : whole ≡ first_out_of test i (n - i)) where
    pub search_end : n ≤ i → whole ≡ none
    unfolding first_out_of
    search_end h = let z : n - i ≡ 0 = omega arith in rw z at left

    pub search_pass : i < n → test i ≡ true → whole ≡ first_out_of test (i + 1) (n - (i + 1))
    unfolding first_out_of
    search_pass h e = let z : n - i ≡ suc (n - (i + 1)) = omega arith in rw (z, e) at left

    pub search_fail : i < n → test i ≡ false → whole ≡ some i
    unfolding first_out_of
    search_fail h e = let z : n - i ≡ suc (n - (i + 1)) = omega arith in rw (z, e) at left

    pub found_end : n ≤ i → None ≡ found_of whole
    found_end h = rw (search_end h)

    pub found_fail : i < n → test i ≡ false → Some i ≡ found_of whole
    found_fail h e = rw (search_fail h e)

-- Tests that say the same of the records find the same.
pub out_same : (f g : ℕ → Bool) (i k : ℕ) → ((j : ℕ) → i ≤ j → j < i + k → f j ≡ g j) → first_out_of f i k ≡ first_out_of g i k
unfolding first_out_of
out_same f g i zero e = refl
out_same f g i (suc k) e = rw (e i (omega arith) (omega arith), out_same f g (i + 1) k (λ j a b. e j (omega arith) (omega arith)))

-- The lowest record at fault, section by section: what was found in one, and then in those after it.
module _ (s : List ℕ) (k : Section) (test : ℕ → Bool) where
  pub lowest_here : (i r : ℕ) → Some i ≡ found_of (first_out_of test 0 (count_of s k)) → r ≡ record_at s k i → Err r ≡ passed_of (lowest_in s ((k, test) ∷ []))
  unfolding lowest_in
  lowest_here i r e p = rw (at_is (first_out_of test 0 (count_of s k)) i e, p)

  pub lowest_none : None ≡ found_of (first_out_of test 0 (count_of s k)) → Ok tt ≡ passed_of (lowest_in s ((k, test) ∷ []))
  unfolding lowest_in
  lowest_none e = rw (nothing_is (first_out_of test 0 (count_of s k)) e)

  module _ (l : List (Section × (ℕ → Bool))) (r : Result (Unit {0}) ℕ) (e : r ≡ passed_of (lowest_in s ((k, test) ∷ []))) where
    pub lowest_found : (p : ℕ) → r ≡ Err p → Err p ≡ passed_of (lowest_in s ((k, test) ∷ l))
    unfolding lowest_in
    lowest_found p f = go (first_out_of test 0 (count_of s k)) (sym f ∙ e)
      where
        go : (o : Option ℕ) → Err p ≡ passed_of (place_or s k o none) → Err p ≡ passed_of (place_or s k o (lowest_in s l))
        go none g = absurd (let z : ◌≡◌ {A = ℕ} 0 1 = cc in omega arith)
        go (some i) g = g

    pub lowest_later : (x : Result (Unit {0}) ℕ) → r ≡ Ok tt → x ≡ passed_of (lowest_in s l) → x ≡ passed_of (lowest_in s ((k, test) ∷ l))
    unfolding lowest_in
    lowest_later x f h = go (first_out_of test 0 (count_of s k)) (sym f ∙ e)
      where
        go : (o : Option ℕ) → Ok tt ≡ passed_of (place_or s k o none) → x ≡ passed_of (place_or s k o (lowest_in s l))
        go none g = h
        go (some i) g = absurd (let z : ◌≡◌ {A = ℕ} 0 1 = cc in omega arith)

-- A search for a name: at record i the answer for what is left is the answer for the whole.
module _ (s : List ℕ) (k : Section) (x to i : ℕ) (o : Option ℕ) (rest : o ≡ first_out_of (other_name s k x) i (to - i)) where
  pub seek_end : to ≤ i → None ≡ found_of o
  unfolding first_out_of
  seek_end h = let e : to - i ≡ 0 = omega arith in rw (rest, e)

  module _ (name : ℕ) (h : i < to) (e : name ≡ record_word s k i 0) where
    pub seek_hit : name ≡ x → Some i ≡ found_of o
    unfolding first_out_of
    seek_hit q = let z : to - i ≡ suc (to - suc i) = omega arith in rw (rest, z, eq-eqb _ x (sym e ∙ q))

    pub seek_miss : (name ≡ x → ⊥) → o ≡ first_out_of (other_name s k x) (i + 1) (to - (i + 1))
    unfolding first_out_of
    seek_miss n = let z : to - i ≡ suc (to - (i + 1)) = omega arith in rw (rest, z, ne_eqb _ x (rw e at n))

-- A name was found where one of the records has it.
abbrev seen : Option ℕ → Bool
seen none = false
seen (some i) = true

module _ (s : List ℕ) (k : Section) (x : ℕ) where
  has_seen : (j n : ℕ) → has_name (name_of s k) x j n ≡ seen (first_out_of (other_name s k x) j n)
  unfolding has_name first_out_of
  has_seen j zero = refl
  has_seen j (suc n) = go (eqb (name_of s k j) x) (has_seen (j + 1) n)
    where
      go : (b : Bool) → has_name (name_of s k) x (j + 1) n ≡ seen (first_out_of (other_name s k x) (j + 1) n) → (b || has_name (name_of s k) x (j + 1) n) ≡ seen (cond (not b) (first_out_of (other_name s k x) (j + 1) n) (some j))
      go true e = refl
      go false e = e

  module _ (start i : ℕ) (f : CodeOption ℕ) (p : x ≡ name_of s k i) (q : f ≡ found_of (first_out_of (other_name s k x) start (i - start))) where
    pub name_old : (j : ℕ) → f ≡ Some j → new_in (name_of s k) start i ≡ false
    name_old j e = rw (← p, has_seen start (i - start), at_is (first_out_of (other_name s k x) start (i - start)) j (sym e ∙ q))

    pub name_new : f ≡ None → new_in (name_of s k) start i ≡ true
    name_new e = rw (← p, has_seen start (i - start), nothing_is (first_out_of (other_name s k x) start (i - start)) (sym e ∙ q))
