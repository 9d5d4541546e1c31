-- What the code of question 7 answers of a node.
use mathlib.Core.Path.{◌≡◌, refl}
use mathlib.Core.Bool.{Bool, true, false}
use mathlib.Core.List.{List}
use Prim.Native.Nat.{ℕ, zero, suc, ◌<◌, min}
use native.Mathlib.Omega.{arith}
use lib.Dec.{eqb}
use lib.ListN.{get_or}
use borrow.Author.Tests.{eqb-true, eqb-false, eq-eqb, ne_eqb}
use Rattle.limits.specs.Limits.{NODES}
use Rattle.script.specs.Lists.{count_in}
use Rattle.script.specs.Syntax.{Point}
use Rattle.script.specs.Questions.{words_test, word_test, uses_in, due_uses, node_test}
use Rattle.records.specs.Uses.{Counted}

-- How often a node is to be used.
due_small : (n : Point) → due_uses n < 2
due_small zero = omega arith
due_small (suc n) = omega arith

-- That more than two uses count as two makes no difference to what is due.
two_enough : (c d : ℕ) → d < 2 → eqb (min 2 c) d ≡ eqb c d
two_enough c d h = go (eqb c d) refl
  where
    go : (b : Bool) → eqb c d ≡ b → eqb (min 2 c) d ≡ eqb c d
    go true e = let f = eqb-true c d e in rw (eq-eqb (min 2 c) d (omega arith), e)
    go false e = let f = eqb-false c d e in rw (ne_eqb (min 2 c) d (λ g. f (omega arith)), e)

module _ (s : List ℕ) (n : Point) (r : Bool) (e : r ≡ words_test s (word_test s n) n) where
  pub node_no : r ≡ false → r ≡ node_test s n
  unfolding node_test
  node_no h = rw (← e, h)

  pub node_is : (uses : List ℕ) (q : Bool) → Counted uses (uses_in s) → n < NODES → r ≡ true → q ≡ eqb (get_or uses n 0) (due_uses n) → q ≡ node_test s n
  unfolding node_test
  node_is uses q t i h g = rw (← e, h, ← two_enough (count_in n (uses_in s)) (due_uses n) (due_small n), ← t.right n i) g
