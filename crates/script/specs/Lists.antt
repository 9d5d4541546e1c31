-- Lists that are read off numbered records.
use Rattle.std.specs.Prelude.{ℕ, zero, suc, ◌+◌, cond, eqb}
use mathlib.Core.List.{List, [], ◌∷◌, Memᴰ}
use Rattle.std.proofs.Math.Option.{Option, none, some}

-- a ∈ l
infix 40 ◌∈◌
abbrev pub ◌∈◌ {ℓ} : {A : Type ℓ} → A → List A → Type ℓ
◌∈◌ a l = Memᴰ a l

-- What holds of each element of a list.
abbrev pub Every : {A : Type 0} → (A → Type 0) → List A → Type 0
Every P [] = Unit {0}
Every P (a ∷ l) = P a × Every P l

-- The k records from i on, each read by f.
unfoldable pub run : {A : Type 0} → (ℕ → A) → ℕ → ℕ → List A
run f i zero = []
run f i (suc k) = f i ∷ run f (i + 1) k

-- f 0 + .. + f (n - 1): where the run of owner n begins, if f says how long each owner's run is.
unfoldable pub sum_below : (ℕ → ℕ) → ℕ → ℕ
sum_below f zero = 0
sum_below f (suc n) = sum_below f n + f n

-- The first element of a list that has this name.
unfoldable pub named : {A : Type 0} → (A → ℕ) → ℕ → List A → Option A
named name x [] = none
named name x (a ∷ l) = let r = named name x l in cond (eqb (name a) x) (some a) r

-- How often a number stands in a list.
unfoldable pub count_in : ℕ → List ℕ → ℕ
count_in x [] = 0
count_in x (y ∷ l) = let r = count_in x l in cond (eqb y x) (suc r) r
