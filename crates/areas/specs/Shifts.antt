-- Lists of which the later part is moved by some places.
use Rattle.std.specs.Prelude.{ℕ, ◌-◌, List, ◌++◌, length, take, drop}

-- The elements from `at` on moved one place up, over the last; element `at` stays as it was.
abbrev pub raised : {A : Type 0} → ℕ → List A → List A
raised at l = take at l ++ (take 1 (drop at l) ++ take (length (drop at l) - 1) (drop at l))

-- The elements from k after element `at` on moved k places down; the last k stay as they were.
abbrev pub lowered : {A : Type 0} → ℕ → ℕ → List A → List A
lowered at k l = take at l ++ (drop k (drop at l) ++ drop (length (drop at l) - k) (drop at l))
