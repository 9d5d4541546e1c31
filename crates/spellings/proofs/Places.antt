-- Places of names in lists, and lists without what came before in them.
use Prim.Native.Nat.{suc, ◌<◌, ◌≤◌}
use mathlib.Core.Path.{◌≡◌, refl, sym, ap, ◌∙◌}
use mathlib.Core.Bool.{Bool, true, false, ◌&&◌}
use mathlib.Core.List.{List, [], ◌∷◌, ◌++◌}
use native.Mathlib.Omega.{arith}
use lib.Dec.{eqb}
use lib.ListN.{length, get_or}
use borrow.Author.Tests.{eqb-true, eq-eqb}
use Rattle.script.proofs.Tests.{true_false}
use Rattle.grammar.specs.Tokens.{Spelling, same_spelling}
use Rattle.grammar.specs.Files.{rank_in}
use Rattle.spellings.specs.Table.{grown}

-- Spellings that pass the test for sameness are the same.
pub same_self : (w : Spelling) → same_spelling w w ≡ true
unfolding same_spelling
same_self [] = refl
same_self (b ∷ w) = rw (eq-eqb b b refl) (same_self w)

pub same_is : (v w : Spelling) → same_spelling v w ≡ true → v ≡ w
unfolding same_spelling
same_is [] [] e = refl
same_is [] (c ∷ w) e = absurd (true_false (sym e))
same_is (b ∷ v) [] e = absurd (true_false (sym e))
same_is (b ∷ v) (c ∷ w) e = go (eqb b c) refl (same_is v w) e
  where
    go : (q : Bool) → eqb b c ≡ q → (same_spelling v w ≡ true → v ≡ w) → q && same_spelling v w ≡ true → b ∷ v ≡ c ∷ w
    go true q f h = cc (eqb-true b c q, f h)
    go false q f h = absurd (true_false (sym h))

pub not_same : (v w : Spelling) → same_spelling v w ≡ false → v ≡ w → ⊥
not_same v w e p = true_false (sym (same_self w) ∙ (rw p at e))

-- A name is in a list if its place is below the length.
abbrev pub Among : List Spelling → Spelling → Type 0
Among l y = rank_in l y < length l

pub place_le : (l : List Spelling) (y : Spelling) → rank_in l y ≤ length l
unfolding rank_in
place_le [] y = omega arith
place_le (z ∷ l) y = go (same_spelling z y) refl (place_le l y)
  where
    go : (q : Bool) → same_spelling z y ≡ q → rank_in l y ≤ length l → rank_in (z ∷ l) y ≤ length (z ∷ l)
    go true e h = rw e (omega arith)
    go false e h = rw e (omega arith)

-- At the place of a name that is there stands the name.
pub at_place : (l : List Spelling) (y : Spelling) → Among l y → get_or l (rank_in l y) [] ≡ y
unfolding rank_in
at_place [] y h = absurd (omega arith)
at_place (z ∷ l) y h = go (same_spelling z y) refl (at_place l y) h
  where
    go : (q : Bool) → same_spelling z y ≡ q → (Among l y → get_or l (rank_in l y) [] ≡ y) → Among (z ∷ l) y → get_or (z ∷ l) (rank_in (z ∷ l) y) [] ≡ y
    go true e f k = rw e (same_is z y e)
    go false e f k = rw e (f (let j = rw e at k in omega arith))

-- What comes behind changes no place, and a name that comes behind is at the end.
pub place_before : (l m : List Spelling) (y : Spelling) → Among l y → rank_in (l ++ m) y ≡ rank_in l y
unfolding rank_in
place_before [] m y h = absurd (omega arith)
place_before (z ∷ l) m y h = go (same_spelling z y) refl (place_before l m y) h
  where
    go : (q : Bool) → same_spelling z y ≡ q → (Among l y → rank_in (l ++ m) y ≡ rank_in l y) → Among (z ∷ l) y → rank_in ((z ∷ l) ++ m) y ≡ rank_in (z ∷ l) y
    go true e f k = rw e
    go false e f k = rw e (ap suc (f (let j = rw e at k in omega arith)))

pub place_behind : (l m : List Spelling) (y : Spelling) → rank_in l y ≡ length l → rank_in (l ++ (y ∷ m)) y ≡ length l
unfolding rank_in
place_behind [] m y h = rw (same_self y)
place_behind (z ∷ l) m y h = go (same_spelling z y) refl (place_behind l m y) h
  where
    go : (q : Bool) → same_spelling z y ≡ q → (rank_in l y ≡ length l → rank_in (l ++ (y ∷ m)) y ≡ length l) → rank_in (z ∷ l) y ≡ length (z ∷ l) → rank_in ((z ∷ l) ++ (y ∷ m)) y ≡ length (z ∷ l)
    go true e f k = absurd (let j = rw e at k in omega arith)
    go false e f k = rw e (ap suc (f (let j = rw e at k in omega arith)))

-- A list grows only by a name that is not there.
pub grown_not : (l : List Spelling) (y : Spelling) → Among l y → grown l y ≡ l
unfolding rank_in grown
grown_not [] y h = absurd (omega arith)
grown_not (z ∷ l) y h = go (same_spelling z y) refl (grown_not l y) h
  where
    go : (q : Bool) → same_spelling z y ≡ q → (Among l y → grown l y ≡ l) → Among (z ∷ l) y → grown (z ∷ l) y ≡ z ∷ l
    go true e f k = rw e
    go false e f k = rw e (ap (λ (m : List Spelling). z ∷ m) (f (let j = rw e at k in omega arith)))

pub grown_by : (l : List Spelling) (y : Spelling) → rank_in l y ≡ length l → grown l y ≡ l ++ (y ∷ [])
unfolding rank_in grown
grown_by [] y h = refl
grown_by (z ∷ l) y h = go (same_spelling z y) refl (grown_by l y) h
  where
    go : (q : Bool) → same_spelling z y ≡ q → (rank_in l y ≡ length l → grown l y ≡ l ++ (y ∷ [])) → rank_in (z ∷ l) y ≡ length (z ∷ l) → grown (z ∷ l) y ≡ z ∷ (l ++ (y ∷ []))
    go true e f k = absurd (let j = rw e at k in omega arith)
    go false e f k = rw e (ap (λ (m : List Spelling). z ∷ m) (f (let j = rw e at k in omega arith)))
