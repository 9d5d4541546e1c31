-- The rows of interfaces.
use mathlib.Core.Path.{◌≡◌, refl, ◌∙◌}
use mathlib.Core.List.{List, [], ◌∷◌}
use Prim.Native.Nat.{ℕ}
use lib.ListN.{drop}
use borrow.Author.Tests.{eq-eqb, ne_eqb}
use Rattle.rows.specs.Rows.{Item, row_item, type_word, owned, interface_row}
use Rattle.token_words.proofs.TokenLaws.{three_are}

pub join_row : (types : ℕ) (es : List Item) {a b : ℕ} → (row_item es 3).role ≡ 7 → a ≡ type_word types (row_item es 3) → b ≡ type_word types (row_item es 5) → 1 ∷ a ∷ b ∷ [] ≡ interface_row types es
unfolding interface_row
join_row types es h p q = three_are refl p q ∙ rw (eq-eqb _ _ h)

pub list_row : (types : ℕ) (es : List Item) {a : ℕ} → ((row_item es 3).role ≡ 7 → ⊥) → a ≡ owned 4 (drop 1 es) → 0 ∷ a ∷ 0 ∷ [] ≡ interface_row types es
unfolding interface_row
list_row types es h p = three_are refl p refl ∙ rw (ne_eqb _ _ h)
