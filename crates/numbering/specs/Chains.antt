-- Chains through the tokens of a text: each name leads to the next one of its sort.
use Rattle.std.specs.Prelude.{ℕ, ◌+◌, ◌<◌, ◌≤◌, ◌≡◌, Bool, true, false, List, eqb, length, get_or, Option, None, Some}
use Rattle.numbering.specs.Numbers.{role_test, chosen_number}
use Rattle.numbering.specs.declared.Firsts.{Firsts}
use Rattle.numbering.specs.declared.Sort.{Sort}
use Rattle.numbering.specs.declared.Sort.TheVariants.{Methods, Fields, Variables, Declared, Types}

-- The first from one number on, and before n, that passes a test, or n.
pub record FirstFrom (test : ℕ → Bool) (from n r : ℕ) : Type 0 where
  pub reached : from ≤ r
  pub within : r ≤ n
  pub before : (k : ℕ) → from ≤ k → k < r → test k ≡ false
  pub there : r < n → test r ≡ true

-- What follows token i in its chain: what stands there, or n where that is i.
abbrev pub next_in : List ℕ → ℕ → ℕ → ℕ
next_in chain i n = chosen_number (eqb (get_or chain i 0) i) n (get_or chain i 0)

-- Of the tokens from one on, those whose role passes a test are linked: the first of them is known, and each leads to the next.
pub record LinkedFrom (test : ℕ → Bool) (roles : List ℕ) (from n : ℕ) (chain : List ℕ) (first : ℕ) : Type 0 where
  pub room : n ≤ length chain
  pub begins : FirstFrom (λ k. test (get_or roles k 0)) from n first
  pub leads :
      (i : ℕ)
      → from ≤ i
      → i < n
      → test (get_or roles i 0) ≡ true
      → FirstFrom (λ k. test (get_or roles k 0)) (i + 1) n (next_in chain i n)

-- The same of all n tokens.
abbrev pub LinkedSort : (ℕ → Bool) → List ℕ → ℕ → List ℕ → ℕ → Type 0
LinkedSort test roles n chain first = LinkedFrom test roles 0 n chain first

-- Sorts by number, which is the place of their first name among the heads of the chains.
abbrev pub SORTS : ℕ
SORTS = 5

abbrev pub sort_number : Sort → ℕ
sort_number Declared = 0
sort_number Types = 1
sort_number Methods = 2
sort_number Fields = 3
sort_number Variables = 4

-- The first name of a sort.
abbrev pub first_name : Firsts → Sort → ℕ
first_name f s = get_or f.by_sort (sort_number s) 0

-- The names of every sort are linked.
pub record ChainsAre (roles : List ℕ) (n : ℕ) (chain : List ℕ) (f : Firsts) : Type 0 where
  pub each : (s : Sort) → LinkedSort (role_test s) roles n chain (first_name f s)

-- r is the sort of a role, if it has one.
abbrev pub SortIs : ℕ → Option Sort → Type 0
SortIs role None = (s : Sort) → role_test s role ≡ false
SortIs role (Some r) = (s : Sort) → role_test s role ≡ eqb (sort_number r) (sort_number s)

-- The names of every sort from one token on are linked, with these heads.
pub record HeadsFrom (roles : List ℕ) (from n : ℕ) (chain heads : List ℕ) : Type 0 where
  pub many : length heads ≡ SORTS
  pub each : (s : Sort) → LinkedFrom (role_test s) roles from n chain (get_or heads (sort_number s) 0)
