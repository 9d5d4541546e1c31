-- Lists of names by first appearance.
use Prim.Native.Nat.{ℕ, suc, ◌+◌, ◌<◌, ◌≤◌}
use mathlib.Core.Path.{◌≡◌, refl, sym, ap, ◌∙◌}
use mathlib.Core.Bool.{Bool, true, false}
use mathlib.Core.List.{List, [], ◌∷◌, ◌++◌}
use mathlib.Core.Logic.{⊎_elim}
use native.Mathlib.Omega.{arith}
use lib.ListN.{length, length-append}
use Rattle.script.proofs.Lists.{lt_or_le}
use Rattle.grammar.specs.Tokens.{Spelling, same_spelling}
use Rattle.grammar.specs.Files.{rank_in, without_name, distinct}
use Rattle.spellings.specs.Table.{grown}
use Rattle.spellings.proofs.Places.{same_self, same_is, not_same, Among, place_le, place_before, place_behind, grown_not, grown_by}

-- Taking one name away leaves another one's growth.
without_grown : (z y : Spelling) → same_spelling z y ≡ false → (l : List Spelling) → without_name z (grown l y) ≡ grown (without_name z l) y
unfolding without_name grown
without_grown z y d [] = rw d
without_grown z y d (x ∷ l) = go (same_spelling z x) refl (same_spelling x y) refl (without_grown z y d l)
  where
    go :
        (q : Bool)
        → same_spelling z x ≡ q
        → (p : Bool)
        → same_spelling x y ≡ p
        → without_name z (grown l y) ≡ grown (without_name z l) y
        → without_name z (grown (x ∷ l) y) ≡ grown (without_name z (x ∷ l)) y
    go true a true b f = absurd (not_same z y d (same_is z x a ∙ same_is x y b))
    go true a false b f = rw (b, a) f
    go false a true b f = rw (b, a, b)
    go false a false b f = rw (b, a, b) (ap (λ (m : List Spelling). x ∷ m) f)

without_same : (z y : Spelling) → same_spelling z y ≡ true → (l : List Spelling) → without_name z (grown l y) ≡ without_name z l
unfolding without_name grown
without_same z y d [] = rw d
without_same z y d (x ∷ l) = go (same_spelling z x) refl (same_spelling x y) refl (without_same z y d l)
  where
    go :
        (q : Bool)
        → same_spelling z x ≡ q
        → (p : Bool)
        → same_spelling x y ≡ p
        → without_name z (grown l y) ≡ without_name z l
        → without_name z (grown (x ∷ l) y) ≡ without_name z (x ∷ l)
    go true a true b f = rw (b, a)
    go true a false b f = rw (b, a) f
    go false a true b f = rw (b, a)
    go false a false b f = rw (b, a) (ap (λ (m : List Spelling). x ∷ m) f)

-- One name more, at the end.
pub distinct_more : (l : List Spelling) (y : Spelling) → distinct (l ++ (y ∷ [])) ≡ grown (distinct l) y
unfolding distinct grown without_name
distinct_more [] y = refl
distinct_more (z ∷ l) y = go (same_spelling z y) refl (distinct_more l y)
  where
    go : (q : Bool) → same_spelling z y ≡ q → distinct (l ++ (y ∷ [])) ≡ grown (distinct l) y → distinct (z ∷ (l ++ (y ∷ []))) ≡ grown (distinct (z ∷ l)) y
    go true e f = rw (e, f) (ap (λ (m : List Spelling). z ∷ m) (without_same z y e (distinct l)))
    go false e f = rw (e, f) (ap (λ (m : List Spelling). z ∷ m) (without_grown z y e (distinct l)))

-- Growth changes no place.
pub place_grown : (l : List Spelling) (y z : Spelling) → Among l z → rank_in (grown l y) z ≡ rank_in l z
place_grown l y z h =
    ⊎_elim
    (λ (b : Among l y). ap (λ (m : List Spelling). rank_in m z) (grown_not l y b))
    (λ (b : length l ≤ rank_in l y).
    ap (λ (m : List Spelling). rank_in m z) (grown_by l y (omega (arith, place_le l y))) ∙ place_before l (y ∷ []) z h)
    (lt_or_le (rank_in l y) (length l))

pub place_own : (l : List Spelling) (y : Spelling) → rank_in (grown l y) y ≡ rank_in l y
place_own l y =
    ⊎_elim
    (λ (b : Among l y). ap (λ (m : List Spelling). rank_in m y) (grown_not l y b))
    (λ (b : length l ≤ rank_in l y).
    let e : rank_in l y ≡ length l = omega (arith, place_le l y) in
    ap (λ (m : List Spelling). rank_in m y) (grown_by l y e) ∙ (place_behind l [] y e ∙ sym e))
    (lt_or_le (rank_in l y) (length l))

pub grown_has : (l : List Spelling) (y : Spelling) → Among (grown l y) y
grown_has l y =
    ⊎_elim
    (λ (b : Among l y). rw (grown_not l y b) b)
    (λ (b : length l ≤ rank_in l y).
    let e : rank_in l y ≡ length l = omega (arith, place_le l y) in
    rw (grown_by l y e) (omega (arith, place_behind l [] y e, length-append l (y ∷ []))))
    (lt_or_le (rank_in l y) (length l))

pub grown_keeps : (l : List Spelling) (y z : Spelling) → Among l z → Among (grown l y) z
grown_keeps l y z h =
    ⊎_elim
    (λ (b : Among l y). rw (grown_not l y b) h)
    (λ (b : length l ≤ rank_in l y).
    let e : rank_in l y ≡ length l = omega (arith, place_le l y) in
    rw (grown_by l y e) (omega (arith, place_before l (y ∷ []) z h, length-append l (y ∷ []))))
    (lt_or_le (rank_in l y) (length l))

-- What a list has.
pub among_first : (z : Spelling) (l : List Spelling) → Among (z ∷ l) z
unfolding rank_in
among_first z l = rw (same_self z) (omega arith)

pub among_behind : (x : Spelling) (l : List Spelling) (z : Spelling) → Among l z → Among (x ∷ l) z
unfolding rank_in
among_behind x l z h = go (same_spelling x z) refl
  where
    go : (q : Bool) → same_spelling x z ≡ q → Among (x ∷ l) z
    go true e = rw e (omega arith)
    go false e = rw e (omega arith)

-- A name other than the first is behind it.
pub among_rest : (x : Spelling) (l : List Spelling) (z : Spelling) → same_spelling x z ≡ false → Among (x ∷ l) z → Among l z
unfolding rank_in
among_rest x l z e h = let k = rw e at h in omega arith

without_has : (x z : Spelling) → same_spelling x z ≡ false → (l : List Spelling) → Among l z → Among (without_name x l) z
unfolding without_name
without_has x z d [] h = h
without_has x z d (w ∷ l) h = go (same_spelling w z) refl (same_spelling x w) refl (without_has x z d l)
  where
    go : (q : Bool) → same_spelling w z ≡ q → (p : Bool) → same_spelling x w ≡ p → (Among l z → Among (without_name x l) z) → Among (without_name x (w ∷ l)) z
    go true a true b f = absurd (not_same x z d (same_is x w b ∙ same_is w z a))
    go false a true b f = rw b (f (among_rest w l z a h))
    go true a false b f = rw (b, same_is w z a) (among_first z (without_name x l))
    go false a false b f = rw b (among_behind w (without_name x l) z (f (among_rest w l z a h)))

pub distinct_has : (l : List Spelling) (z : Spelling) → Among l z → Among (distinct l) z
unfolding distinct
distinct_has [] z h = h
distinct_has (x ∷ l) z h = go (same_spelling x z) refl (distinct_has l z)
  where
    go : (q : Bool) → same_spelling x z ≡ q → (Among l z → Among (distinct l) z) → Among (x ∷ without_name x (distinct l)) z
    go true e f = rw (same_is x z e) (among_first z (without_name z (distinct l)))
    go false e f = among_behind x (without_name x (distinct l)) z (without_has x z e (distinct l) (f (among_rest x l z e h)))

without_from : (x z : Spelling) (l : List Spelling) → Among (without_name x l) z → Among l z
unfolding without_name
without_from x z [] h = h
without_from x z (w ∷ l) h = go (same_spelling w z) refl (same_spelling x w) refl (without_from x z l) h
  where
    go : (q : Bool) → same_spelling w z ≡ q → (p : Bool) → same_spelling x w ≡ p → (Among (without_name x l) z → Among l z) → Among (without_name x (w ∷ l)) z → Among (w ∷ l) z
    go true a p b f k = rw (same_is w z a) (among_first z l)
    go false a true b f k = among_behind w l z (f (rw b at k))
    go false a false b f k = among_behind w l z (f (among_rest w (without_name x l) z a (rw b at k)))

pub distinct_from : (l : List Spelling) (z : Spelling) → Among (distinct l) z → Among l z
unfolding distinct
distinct_from [] z h = h
distinct_from (x ∷ l) z h = go (same_spelling x z) refl (distinct_from l z)
  where
    go : (q : Bool) → same_spelling x z ≡ q → (Among (distinct l) z → Among l z) → Among (x ∷ l) z
    go true e f = rw (same_is x z e) (among_first z l)
    go false e f = among_behind x l z (f (without_from x z (distinct l) (among_rest x (without_name x (distinct l)) z e h)))

without_few : (x : Spelling) (l : List Spelling) → length (without_name x l) ≤ length l
unfolding without_name
without_few x [] = omega arith
without_few x (w ∷ l) = go (same_spelling x w) refl (without_few x l)
  where
    go : (q : Bool) → same_spelling x w ≡ q → length (without_name x l) ≤ length l → length (without_name x (w ∷ l)) ≤ suc (length l)
    go true e h = rw e (omega arith)
    go false e h = rw e (omega arith)

pub distinct_few : (l : List Spelling) → length (distinct l) ≤ length l
unfolding distinct
distinct_few [] = omega arith
distinct_few (x ∷ l) = omega (arith, without_few x (distinct l), distinct_few l)

-- How much longer a list gets.
pub length_known : (l : List Spelling) (y : Spelling) (count r : ℕ) → length l ≡ count → r ≡ rank_in l y → r < count → length (grown l y) ≡ count
length_known l y count r p q h = ap length (grown_not l y (omega arith)) ∙ p

pub length_new : (l : List Spelling) (y : Spelling) (count r : ℕ) → length l ≡ count → r ≡ rank_in l y → count ≤ r → length (grown l y) ≡ count + 1
length_new l y count r p q h = ap length (grown_by l y (omega (arith, place_le l y))) ∙ (length-append l (y ∷ []) ∙ omega arith)
