-- The rows of nodes, by the role of their first token.
use mathlib.Core.Path.{◌≡◌}
use mathlib.Core.List.{List}
use Prim.Native.Nat.{ℕ, zero, suc, ◌+◌, ◌/◌, ◌%◌, ◌^◌, ◌<◌, ◌≤◌}
use native.Mathlib.Omega.{arith}
use borrow.Author.Tests.{ne_eqb}
use Rattle.words.specs.Word.{WORD}
use Rattle.words.specs.Integer.{bits_of, low_word, high_word}
use Rattle.grammar.specs.Files.{four_words, negated}
use Rattle.rows.specs.Rows.{Item, row_item, type_word, variable_word, hop, node_row}

module _ (types n : ℕ) (sizes : List ℕ) (es : List Item) where
  abbrev Here : ℕ → Type 0
  Here r = (row_item es 0).role % 32 ≡ r

  abbrev Is : List ℕ → Type 0
  Is ws = ws ≡ node_row types n sizes es

  pub null_node : Here 16 → Is (four_words 0 0 0 0)
  unfolding node_row
  null_node h = rw h

  pub variable_node : {x : ℕ} → Here 17 → x ≡ variable_word (row_item es 0) → Is (four_words 1 x 0 0)
  unfolding node_row
  variable_node h p = rw (h, p)

  pub select_node : {x f : ℕ} → Here 18 → x ≡ variable_word (row_item es 0) → f ≡ (row_item es 2).value → Is (four_words 2 x f 0)
  unfolding node_row
  select_node h p q = rw (h, p, q)

  pub update_node : {x f : ℕ} → Here 19 → x ≡ variable_word (row_item es 0) → f ≡ (row_item es 2).value → Is (four_words 3 x f (n + 1))
  unfolding node_row
  update_node h p q = rw (h, p, q)

  pub call_node : {x m : ℕ} → Here 20 → x ≡ variable_word (row_item es 0) → m ≡ (row_item es 2).value → Is (four_words 4 x m (n + 1))
  unfolding node_row
  call_node h p q = rw (h, p, q)

  pub let_node : {y : ℕ} → Here 21 → y ≡ (row_item es 1).value → Is (four_words 5 (y + 2) (n + 1) (n + 1 + hop 1 sizes))
  unfolding node_row
  let_node h p = rw (h, p)

  pub new_node : {t : ℕ} → Here 22 → t ≡ type_word types (row_item es 1) → Is (four_words 6 t 0 0)
  unfolding node_row
  new_node h p = rw (h, p)

  pub cast_node : {t : ℕ} → Here 23 → t ≡ type_word types (row_item es 1) → Is (four_words 7 t (n + 1) 0)
  unfolding node_row
  cast_node h p = rw (h, p)

  pub fork_node : Here 24 → Is (four_words 8 (n + 1) (n + 1 + hop 1 sizes) (n + 1 + hop 2 sizes))
  unfolding node_row
  fork_node h = rw h

  pub lock_node : {x : ℕ} → Here 25 → x ≡ variable_word (row_item es 2) → Is (four_words 9 x (n + 1) 0)
  unfolding node_row
  lock_node h p = rw (h, p)

  pub integer_node : {a : ℕ} → Here 26 → a ≡ (row_item es 0).amount → Is (four_words 10 (a % WORD) (a / WORD) 0)
  unfolding node_row low_word high_word
  integer_node h p = rw (h, p)

  pub negative_node : {a b : ℕ} → Here 29 → a ≡ (row_item es 1).amount → b ≡ bits_of (negated a) → Is (four_words 10 (b % WORD) (b / WORD) 0)
  unfolding node_row low_word high_word
  negative_node h p q = rw (h, q, p)

  pub sum_node : Here 27 → Is (four_words 11 (variable_word (row_item es 0)) (variable_word (row_item es 2)) 0)
  unfolding node_row
  sum_node h = rw h

  -- the last of all
  pub sum_in_node : 26 < (row_item es 0).role % 32 → (Here 27 → ⊥) → (Here 29 → ⊥) → Is (four_words 11 (variable_word (row_item es 1)) (variable_word (row_item es 3)) 0)
  unfolding node_row
  sum_in_node h p q =
      let no : (k : ℕ) → k ≤ 26 → ((row_item es 0).role % 32 ≡ k → ⊥) = λ k l e. omega arith in
      rw (
        ne_eqb _ 16 (no 16 (omega arith)),
        ne_eqb _ 17 (no 17 (omega arith)),
        ne_eqb _ 18 (no 18 (omega arith)),
        ne_eqb _ 19 (no 19 (omega arith)),
        ne_eqb _ 20 (no 20 (omega arith)),
        ne_eqb _ 21 (no 21 (omega arith)),
        ne_eqb _ 22 (no 22 (omega arith)),
        ne_eqb _ 23 (no 23 (omega arith)),
        ne_eqb _ 24 (no 24 (omega arith)),
        ne_eqb _ 25 (no 25 (omega arith)),
        ne_eqb _ 26 (no 26 (omega arith)),
        ne_eqb _ 29 q,
        ne_eqb _ 27 p,
      )

-- a number with a minus
pub negated_bits : (a r : ℕ) → r < 2 ^ 32 → a < 2 ^ 32 → (r + a) % 2 ^ 32 ≡ 0 → r ≡ bits_of (negated a)
negated_bits zero r l h e = omega arith
negated_bits (suc a) r l h e = omega arith
