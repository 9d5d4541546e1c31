-- What the digits of tokens say.
use mathlib.Core.Path.{◌≡◌, refl, sym, ap, ◌∙◌}
use mathlib.Core.Bool.{Bool, true, false}
use mathlib.Core.List.{List, [], ◌∷◌, map}
use Prim.Native.Nat.{ℕ, zero, suc, ◌+◌, ◌<◌, ◌≤◌}
use native.Mathlib.Omega.{arith}
use native.Mathlib.Nat.{not-suc-le-zero, le_of_suc-le-suc}
use lib.ListN.{length, get_or, drop, get_or-map}
use lib.Seq.{get_or-drop}
use lib.Dec.{leb}
use borrow.Author.Tests.{leb-true}
use Rattle.tokens.specs.Runs.{BEYOND, capped_by, capped}
use Rattle.rows.specs.Rows.{Item, no_item, row_item}
use Rattle.token_words.specs.Items.{Amounts, amount_at}

-- what one token's digits say
map_in : (f : ℕ → ℕ) (l : List ℕ) (i : ℕ) → i < length l → get_or (map f l) i 0 ≡ f (get_or l i 0)
map_in f [] i h = absurd (not-suc-le-zero h)
map_in f (x ∷ l) zero h = refl
map_in f (x ∷ l) (suc i) h = map_in f l i (le_of_suc-le-suc h)

module _ {text offsets : List ℕ} {es : List Item} (a : Amounts text offsets es) {i : ℕ} (j k : ℕ) (h : j + k ≡ i) where
  amount_as : (row_item (drop j es) k).amount ≡ get_or (map (amount_at text) offsets) i 0
  amount_as =
      ap (λ (x : Item). x.amount) (get_or-drop j es k no_item) ∙ sym (get_or-map (λ (x : Item). x.amount) es (j + k) no_item) ∙ rw (a.amounts_are, h)

  pub amount_in : i < length offsets → (row_item (drop j es) k).amount ≡ amount_at text (get_or offsets i 0)
  amount_in l = amount_as ∙ map_in (amount_at text) offsets i l

pub capped_most : (n : ℕ) → capped n ≤ BEYOND
unfolding capped
capped_most n = go (leb n BEYOND) refl
  where
    go : (t : Bool) → leb n BEYOND ≡ t → capped_by t n ≤ BEYOND
    go true e = leb-true n BEYOND e
    go false e = omega arith
