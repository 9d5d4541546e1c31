-- A table, range by range.
use Prim.Native.Nat.{ℕ, zero, suc, ◌+◌, ◌-◌, ◌≤◌, ◌<◌}
use native.Mathlib.Numerals.{add-one}
use native.Mathlib.Omega.{arith}
use mathlib.Core.Path.{◌≡◌, ◌∙◌, ap}
use mathlib.Core.List.{List}
use lib.ListN.{get_or, set, replicate}
use lib.Seq.{sets}
use Rattle.tokens.specs.Kinds.{byte_kinds}

-- A range of the table, put one byte at a time.
pub range_on :
    (kinds : List ℕ) (b last kind : ℕ)
    → b ≤ last
    → sets (set kinds b kind) (b + 1) (replicate (last + 1 - (b + 1)) kind) ≡ sets kinds b (replicate (last + 1 - b) kind)
range_on kinds b last kind h = let e : last + 1 - b ≡ suc (last + 1 - (b + 1)) = omega arith in rw (e, add-one b)

pub range_done : (kinds : List ℕ) (b last kind : ℕ) → last < b → kinds ≡ sets kinds b (replicate (last + 1 - b) kind)
range_done kinds b last kind h = let e : last + 1 - b ≡ 0 = omega arith in rw e

-- The table with the first n ranges of a list put in.
abbrev pub Range : Type 0
Range = ℕ × ℕ × ℕ

unfoldable pub ranged_to : List Range → ℕ → List ℕ → List ℕ
ranged_to ranges zero l = l
ranged_to ranges (suc n) l =
    let r = get_or ranges n (0, 0, 0) in sets (ranged_to ranges n l) r.0 (replicate (r.1 + 1 - r.0) r.2)

pub ranged_more :
    (ranges : List Range) (n : ℕ) (l m : List ℕ)
    → m ≡ ranged_to ranges n l
    → sets m (get_or ranges n (0, 0, 0)).0 (replicate ((get_or ranges n (0, 0, 0)).1 + 1 - (get_or ranges n (0, 0, 0)).0) (get_or ranges n (0, 0, 0)).2)
    ≡ ranged_to ranges (n + 1) l
unfolding ranged_to
ranged_more ranges n l m h = rw (add-one n, h)

pub ranged_all : (ranges : List Range) (n : ℕ) (l m : List ℕ) → m ≡ ranged_to ranges n l → n ≡ 18 → ranged_to ranges 18 l ≡ byte_kinds → m ≡ byte_kinds
ranged_all ranges n l m h e t = h ∙ ap (λ (i : ℕ). ranged_to ranges i l) e ∙ t
