-- Integers outside the range, as the code asks for them.
use mathlib.Core.Path.{◌≡◌, refl, sym, ap, ◌∙◌}
use mathlib.Core.Bool.{Bool, true, false, not, or-false}
use mathlib.Core.List.{List, [], ◌∷◌}
use Prim.Native.Nat.{ℕ, zero, suc, ◌+◌, ◌%◌, ◌≤◌, ◌<◌}
use native.Mathlib.Omega.{arith}
use lib.Dec.{leb, ltb, leb-suc-suc}
use lib.IntN.{pos}
use lib.ListN.{length, get_or, drop, drop_of_length-le}
use lib.Seq.{drop-cons}
use borrow.Author.Tests.{ne_eqb, leb-false, ltb-true, ltb-false, le-ltb, le-leb, lt-leb}
use Rattle.words.specs.Integer.{HALF, range_test}
use Rattle.grammar.specs.Tokens.{Lexeme, fixed, TEXT_END, decimal, decimal_from}
use Rattle.script.specs.declared.Section.TheVariants.{Nodes as nodes}
use Rattle.grammar.specs.Roles.{PLAIN, R_NULL, R_INTEGER, R_NEGATIVE, BINDING}
use Rattle.grammar.specs.Files.{spelling_of, negated}
use Rattle.grammar.specs.Faults.{Marked, marked_by, head_spelling, begins_test, outside_test}
use Rattle.tokens.specs.Runs.{digits_from, capped, BEYOND, capped_by}
use Rattle.bounds.specs.Counting.{IntegersSpelt, lexeme_at, marked_at}

-- a number of digits, and one behind a minus
leb_not : (a b : ℕ) → leb a b ≡ not (ltb b a)
leb_not a b = go (ltb b a) refl
  where
    go : (q : Bool) → ltb b a ≡ q → leb a b ≡ not q
    go true e = lt-leb a b (ltb-true b a e)
    go false e = le-leb a b (ltb-false b a e)

past_half : (n : ℕ) → leb HALF (capped n) ≡ not (range_test (pos n))
unfolding capped
past_half n = go (leb n BEYOND) refl
  where
    go : (q : Bool) → leb n BEYOND ≡ q → leb HALF (capped_by q n) ≡ not (ltb n HALF)
    go true e = leb_not HALF n
    go false e = let l : BEYOND < n = leb-false n BEYOND e in rw (le-ltb n HALF (omega arith))

past_minus : (n : ℕ) → ltb HALF (capped n) ≡ not (range_test (negated n))
unfolding capped
past_minus zero = refl
past_minus (suc n) = go (leb (suc n) BEYOND) refl
  where
    go : (q : Bool) → leb (suc n) BEYOND ≡ q → ltb HALF (capped_by q (suc n)) ≡ not (ltb n HALF)
    go true e = leb_not (suc HALF) (suc n) ∙ ap not (leb-suc-suc (suc n) HALF)
    go false e = let l : BEYOND < suc n = leb-false (suc n) BEYOND e in rw (le-ltb n HALF (omega arith))

-- what begins no node is no integer
pub not_outside : (m : Marked) (after : List Marked) → begins_test nodes m.role ≡ false → outside_test m after ≡ false
not_outside m after h =
    let low : m.role % BINDING < R_NULL = leb-false R_NULL (m.role % BINDING) h in
    rw (ne_eqb m.role R_INTEGER (λ e. omega arith), ne_eqb m.role R_NEGATIVE (λ e. omega arith))

-- token i of a list of roles and tokens
length_marked : (rs : List ℕ) (ls : List Lexeme) → length rs ≡ length ls → length (marked_by rs ls) ≡ length rs
unfolding marked_by
length_marked [] ls h = refl
length_marked (r ∷ rs) [] h = absurd (omega arith)
length_marked (r ∷ rs) (t ∷ ls) h = ap suc (length_marked rs ls (omega arith))

marked_at_lem : (rs : List ℕ) (ls : List Lexeme) (i : ℕ) → i < length rs → i < length ls → marked_at (marked_by rs ls) i ≡ record { role = get_or rs i 0; marks = lexeme_at ls i }
unfolding marked_by
marked_at_lem [] ls i h k = absurd (omega arith)
marked_at_lem (r ∷ rs) [] i h k = absurd (omega arith)
marked_at_lem (r ∷ rs) (t ∷ ls) zero h k = refl
marked_at_lem (r ∷ rs) (t ∷ ls) (suc i) h k = marked_at_lem rs ls i (omega arith) (omega arith)

-- the tokens of a text
module _ (text roles offsets : List ℕ) (ls : List Lexeme) (s : IntegersSpelt text roles offsets (length roles) ls) where
  abbrev tokens : List Marked
  tokens = marked_by roles ls

  pub length_tokens : length tokens ≡ length roles
  length_tokens = length_marked roles ls (sym s.all)

  pub token_at_lem : (j : ℕ) → j < length roles → marked_at tokens j ≡ record { role = get_or roles j 0; marks = lexeme_at ls j }
  token_at_lem j l = marked_at_lem roles ls j l (omega (arith, s.all))

  -- what the code answers for token i, m being the value of the digits that it looks at
  module _ (i : ℕ) (h : i < length roles) where
    abbrev answer : Bool
    answer = outside_test (marked_at tokens i) (drop (i + 1) tokens)

    pub neither : (get_or roles i 0 ≡ R_INTEGER → ⊥) → (get_or roles i 0 ≡ R_NEGATIVE → ⊥) → false ≡ answer
    neither p q = rw (token_at_lem i h, ne_eqb (get_or roles i 0) R_INTEGER p, ne_eqb (get_or roles i 0) R_NEGATIVE q)

    pub unfollowed : get_or roles i 0 ≡ R_NEGATIVE → length roles ≤ i + 1 → false ≡ answer
    unfolding decimal_from
    unfollowed p e = let l : length tokens ≤ i + 1 = omega (arith, length_tokens) in rw (token_at_lem i h, p, drop_of_length-le tokens l)

    behind : i + 1 < length roles → head_spelling (drop (i + 1) tokens) ≡ spelling_of (lexeme_at ls (i + 1))
    behind l =
        let k : i + 1 < length tokens = omega (arith, length_tokens) in
        rw (drop-cons tokens (i + 1) (record { role = PLAIN; marks = fixed TEXT_END }) k, token_at_lem (i + 1) l)

    module _ (m : ℕ) where
      pub digits : get_or roles i 0 ≡ R_INTEGER → m ≡ capped (decimal (digits_from (drop (get_or offsets i 0) text))) → leb HALF m ≡ answer
      digits p q =
          let d = decimal (spelling_of (lexeme_at ls i)) in
          rw (token_at_lem i h, p, q, ← s.integers i h p) (past_half d ∙ sym (or-false (not (range_test (pos d)))))

      pub minus :
          get_or roles i 0 ≡ R_NEGATIVE
          → i + 1 < length roles
          → m ≡ capped (decimal (digits_from (drop (get_or offsets (i + 1) 0) text)))
          → ltb HALF m ≡ answer
      minus p l q =
          rw (token_at_lem i h, p, behind l, q, ← s.negatives i l p) (past_minus (decimal (spelling_of (lexeme_at ls (i + 1)))))
