-- What the writer is handed is what it must be, and what it writes is the derivation's file.
use Prim.Native.Nat.{ℕ, zero, suc, ◌+◌, ◌≤◌}
use mathlib.Core.Path.{◌≡◌, refl, sym, ap, ◌∙◌}
use mathlib.Core.Bool.{Bool, true, false, cond}
use mathlib.Core.List.{List, [], ◌∷◌, map}
use native.Mathlib.Omega.{arith}
use lib.Dec.{eqb}
use lib.ListN.{length, get_or, drop, length-map}
use Rattle.script.specs.declared.Section.{Section}
use Rattle.grammar.specs.Tokens.{Spelling, Lexeme, decimal, tokens_of}
use Rattle.grammar.specs.Grammar.{Derivation, spelled_text}
use Rattle.grammar.specs.Roles.{R_TYPE, roles_text}
use Rattle.grammar.specs.Files.{Numbering, numbering_of, spelling_of, kept_if, rank_in, distinct, names_with, method_role, field_role, other_role, declared_role}
use Rattle.grammar.specs.Faults.{marked_by, begins_test, one_more_if, begun_in}
use Rattle.tokens.specs.Runs.{digits_from, capped}
use Rattle.rows.specs.Rows.{one_added_if}
use Rattle.rows.specs.Items.{items_text}
use Rattle.rows.specs.Zipped.{value_by, amount_by, items_by}
use Rattle.rows.proofs.Zipped.{text_by}
use Rattle.token_words.specs.Items.{amount_at, items_of}
use Rattle.spellings.proofs.Places.{place_le}
use Rattle.numbering.proofs.Distinct.{distinct_few}
use Rattle.section_rows.specs.Records.{begun_among}
use Rattle.capacity.specs.Extent.{WithinLimits}
use Rattle.capacity.proofs.Roles.{text_spelled}
use Rattle.spelt.proofs.Spelt.{spelt}
use Rattle.ask_limits.proofs.Amounts.{text_small, amounts_read}

-- The items of tokens with these roles, offsets and numbers are those of the derivation.
items_same :
    (text : List ℕ) (k : Numbering) (rs : List ℕ) (ls : List Lexeme) (os vs : List ℕ)
    → length rs ≡ length ls
    → map amount_by ls ≡ map (λ at. capped (decimal (digits_from (drop at text)))) os
    → vs ≡ map (λ e. e.value) (items_by k rs ls)
    → items_of text rs os vs ≡ items_by k rs ls
unfolding items_of items_by
items_same text k [] ls os vs h a v = refl
items_same text k (r ∷ rs) [] os vs h a v = absurd (omega (arith, h))
items_same text k (r ∷ rs) (l ∷ ls) [] vs h a v = absurd (let z : ◌≡◌ {A = ℕ} 0 1 = cc in omega arith)
items_same text k (r ∷ rs) (l ∷ ls) (o ∷ os) [] h a v = absurd (let z : ◌≡◌ {A = ℕ} 0 1 = cc in omega arith)
items_same text k (r ∷ rs) (l ∷ ls) (o ∷ os) (w ∷ vs) h a v =
    let here : amount_by l ≡ amount_at text o = cc in
    let value : w ≡ value_by k r (spelling_of l) = cc in
    let rest = items_same text k rs ls os vs (omega (arith, h)) (let q : map amount_by ls ≡ map (λ at. capped (decimal (digits_from (drop at text)))) os = cc in q) (let q : vs ≡ map (λ e. e.value) (items_by k rs ls) = cc in q) in
    rw (value, ← here, rest) refl

-- Records that begin are counted by roles alone.
pub begun_roles : (s : Section) (rs : List ℕ) (ls : List Lexeme) → length rs ≡ length ls → begun_among s rs ≡ begun_in s (marked_by rs ls)
unfolding begun_among begun_in marked_by
begun_roles s [] ls h = refl
begun_roles s (r ∷ rs) [] h = absurd (omega (arith, h))
begun_roles s (r ∷ rs) (l ∷ ls) h = go (begins_test s r) (begun_roles s rs ls (omega (arith, h)))
  where
    go : (q : Bool) → begun_among s rs ≡ begun_in s (marked_by rs ls) → one_added_if q (begun_among s rs) ≡ one_more_if q (begun_in s (marked_by rs ls))
    go true e = ap (λ n. n + 1) e
    go false e = e

-- Numbers are at most as many as tokens.
names_few : (test : ℕ → Bool) (rs : List ℕ) (ls : List Lexeme) → length (names_with test rs ls) ≤ length rs
unfolding names_with
names_few test [] ls = omega arith
names_few test (r ∷ rs) [] = omega arith
names_few test (r ∷ rs) (l ∷ ls) = go (test r) (names_few test rs ls)
  where
    go : (q : Bool) → length (names_with test rs ls) ≤ length rs → length (kept_if q (spelling_of l) (names_with test rs ls)) ≤ suc (length rs)
    go true h = omega (arith, h)
    go false h = omega (arith, h)

place_few : (test : ℕ → Bool) (rs : List ℕ) (ls : List Lexeme) (y : Spelling) → rank_in (distinct (names_with test rs ls)) y ≤ length rs
place_few test rs ls y =
    let l = names_with test rs ls in
    omega (arith, place_le (distinct l) y, distinct_few l, names_few test rs ls)

cond_few : (q : Bool) (a b n : ℕ) → a ≤ n → b ≤ n → cond q a b ≤ n
cond_few true a b n h g = h
cond_few false a b n h g = g

value_few : (d : Derivation) (r : ℕ) (y : Spelling) → value_by (numbering_of d) r y ≤ length (roles_text d)
unfolding value_by
value_few d r y =
    let n = length (roles_text d) in
    let p : (test : ℕ → Bool) → rank_in (distinct (names_with test (roles_text d) (spelled_text d))) y ≤ n = λ test. place_few test (roles_text d) (spelled_text d) y in
    cond_few (other_role r) _ _ n (p other_role)
    (cond_few (field_role r) _ _ n (p field_role)
    (cond_few (method_role r) _ _ n (p method_role) (cond_few (eqb r R_TYPE) _ _ n (p declared_role) (cond_few (declared_role r) _ _ n (p declared_role) (omega arith)))))

values_few : (d : Derivation) (rs : List ℕ) (ls : List Lexeme) (i : ℕ) → get_or (map (λ e. e.value) (items_by (numbering_of d) rs ls)) i 0 ≤ length (roles_text d)
unfolding items_by
values_few d [] ls i = omega arith
values_few d (r ∷ rs) [] i = omega arith
values_few d (r ∷ rs) (l ∷ ls) zero = value_few d r (spelling_of l)
values_few d (r ∷ rs) (l ∷ ls) (suc i) = values_few d rs ls i

-- The derivation's items and numbers, where the passes have left them.
module _ (text : List ℕ) (d : Derivation) (derives : spelled_text d ≡ map (λ t. t.lexeme) (tokens_of text)) where
  all_tokens : length (roles_text d) ≡ length (tokens_of text)
  all_tokens = text_spelled d ∙ ap length derives ∙ length-map (tokens_of text) (λ t. t.lexeme)

  pub items_derived :
      WithinLimits d
      → items_of text (roles_text d) (map (λ t. t.offset) (tokens_of text)) (map (λ e. e.value) (items_text (numbering_of d) d)) ≡ items_text (numbering_of d) d
  items_derived w =
      let k = numbering_of d in
      ap (λ es. items_of text (roles_text d) (map (λ t. t.offset) (tokens_of text)) (map (λ e. e.value) es)) (sym (text_by k d))
      ∙ items_same text k (roles_text d) (spelled_text d) (map (λ t. t.offset) (tokens_of text)) (map (λ e. e.value) (items_by k (roles_text d) (spelled_text d))) (text_spelled d)
      (ap (map amount_by) derives ∙ amounts_read text (tokens_of text) (spelt text) (rw derives at (text_small d w)))
      refl
      ∙ text_by k d

  pub values_small : (i : ℕ) → get_or (map (λ e. e.value) (items_text (numbering_of d) d)) i 0 ≤ length (roles_text d)
  values_small i = rw (← text_by (numbering_of d) d) (values_few d (roles_text d) (spelled_text d) i)
