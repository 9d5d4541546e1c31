-- Where the records of a section begin, and how many begin before a token.
use mathlib.Core.Path.{◌≡◌, refl, sym, ap, ◌∙◌}
use mathlib.Core.Bool.{Bool, true, false, cond}
use mathlib.Core.List.{List, [], ◌∷◌, ◌++◌}
use mathlib.Core.Logic.{⊎_elim}
use Prim.Native.Nat.{ℕ, zero, suc, ◌+◌, ◌-◌, ◌≤◌, ◌<◌}
use native.Mathlib.Omega.{arith}
use native.Mathlib.Nat.{eq-or-lt_of_le}
use native.Mathlib.Numerals.{add-one}
use lib.Dec.{ltb}
use borrow.Author.Tests.{lt-ltb, ltb-true, ltb-false}
use Rattle.std.specs.List.{count_by}
use Rattle.std.specs.List.Sorted.{IsPartitionPoint, IsPartitionedBy}
use Rattle.std.proofs.lemmas.List.{get_or_default}
use Rattle.std.proofs.lemmas.List.Recursion.{is_count_by}
use lib.ListN.{length, get_or, take, drop, length-drop, take-append-drop}
use lib.Seq.{drop-cons, length-take-le, take_all, take-add, get_or-take, get_or-drop, ext_get_or}
use Rattle.script.specs.declared.Section.{Section}
use Rattle.grammar.specs.Faults.{begins_test}
use Rattle.script.proofs.Lists.{lt_or_le}
use Rattle.bounds.specs.Places.{place_if, places_from, index_of, RECORDS, IndexIs}
use Rattle.rows.specs.Rows.{one_added_if}
use Rattle.section_rows.specs.Records.{begun_among}

-- one more, or not
pub one_more : (t : Bool) (n : ℕ) → one_added_if t n ≡ one_added_if t 0 + n
one_more true n = omega arith
one_more false n = omega arith

-- records counted token by token
pub begun_step :
    (s : Section) (roles : List ℕ) (i : ℕ)
    → i < length roles
    → begun_among s (drop i roles) ≡ one_added_if (begins_test s (get_or roles i 0)) 0 + begun_among s (drop (i + 1) roles)
unfolding begun_among
begun_step s roles i h = rw (drop-cons roles i 0 h, add-one) (one_more (begins_test s (get_or roles i 0)) (begun_among s (drop (suc i) roles)))

begun_append : (s : Section) (xs ys : List ℕ) → begun_among s (xs ++ ys) ≡ begun_among s xs + begun_among s ys
unfolding begun_among
begun_append s [] ys = omega arith
begun_append s (x ∷ xs) ys = go (begins_test s x) (begun_append s xs ys)
  where
    go : (t : Bool) → begun_among s (xs ++ ys) ≡ begun_among s xs + begun_among s ys → one_added_if t (begun_among s (xs ++ ys)) ≡ one_added_if t (begun_among s xs) + begun_among s ys
    go true p = omega arith
    go false p = p

-- how many begin before a token
module _ (s : Section) (roles : List ℕ) where
  pub begun_split : (i : ℕ) → begun_among s (take i roles) + begun_among s (drop i roles) ≡ begun_among s roles
  begun_split i = sym (begun_append s (take i roles) (drop i roles)) ∙ ap (begun_among s) (take-append-drop i roles)

  pub begun_add : (i j : ℕ) → begun_among s (take (i + j) roles) ≡ begun_among s (take i roles) + begun_among s (take j (drop i roles))
  begun_add i j = ap (begun_among s) (take-add i j roles) ∙ begun_append s (take i roles) (take j (drop i roles))

  pub begun_until : {i j : ℕ} → i ≤ j → begun_among s (take i roles) ≤ begun_among s (take j roles)
  begun_until {i} {j} h = let e : i + (j - i) ≡ j = omega arith in omega (arith, begun_add i (j - i), ap (λ (k : ℕ). begun_among s (take k roles)) e)

  pub begun_next : (p : ℕ) → p < length roles → begun_among s (take (p + 1) roles) ≡ begun_among s (take p roles) + one_added_if (begins_test s (get_or roles p 0)) 0
  begun_next p h = omega (arith, begun_split p, begun_split (p + 1), begun_step s roles p h)

  pub begun_all : {i : ℕ} → length roles ≤ i → begun_among s (take i roles) ≡ begun_among s roles
  begun_all {i} h = ap (begun_among s) (take_all i roles h)

-- record k of a section begins at token p
pub record Place (s : Section) (roles : List ℕ) (k p : ℕ) : Type 0 where
  pub inside : p < length roles
  pub begins : begins_test s (get_or roles p 0) ≡ true
  pub passed : begun_among s (take p roles) ≡ k

module _ {s : Section} {roles : List ℕ} {k p : ℕ} (z : Place s roles k p) where
  pub place_next : begun_among s (take (p + 1) roles) ≡ k + 1
  place_next = begun_next s roles p z.inside ∙ rw z.begins (omega (arith, z.passed))

  -- the tokens up to it have at most k records before them, those behind it more
  pub place_until : {i : ℕ} → i ≤ p → begun_among s (take i roles) ≤ k
  place_until {i} h = omega (arith, begun_until s roles h, z.passed)

  pub place_behind : {i : ℕ} → p < i → k + 1 ≤ begun_among s (take i roles)
  place_behind {i} h = omega (arith, begun_until s roles {i = p + 1} {j = i} (omega arith), place_next)

  pub place_after : {i : ℕ} → begun_among s (take i roles) ≤ k → i ≤ p
  place_after {i} h =
      ⊎_elim (λ (l : p < i). absurd (omega (arith, place_behind l))) (λ l. l) (lt_or_le p i)

  pub place_before : {to : ℕ} → k < begun_among s (take to roles) → p < to
  place_before {to} h =
      ⊎_elim (λ l. l) (λ (l : to ≤ p). absurd (omega (arith, place_until l))) (lt_or_le p to)

-- the places that there are
places_long : (s : Section) (i : ℕ) (roles : List ℕ) → length (places_from s i roles) ≡ begun_among s roles
unfolding places_from begun_among
places_long s i [] = refl
places_long s i (r ∷ roles) = go (begins_test s r) (places_long s (i + 1) roles)
  where
    go :
        (t : Bool)
        → length (places_from s (i + 1) roles) ≡ begun_among s roles
        → length (place_if t i (places_from s (i + 1) roles)) ≡ one_added_if t (begun_among s roles)
    go true p = omega arith
    go false p = p

-- place k, where the first token is token i
record PlaceFrom (s : Section) (i : ℕ) (roles : List ℕ) (k : ℕ) (at : ℕ) : Type 0 where
  behind : ℕ
  at_is : at ≡ i + behind
  place : Place s roles k behind

place_from : (s : Section) (i : ℕ) (roles : List ℕ) (k : ℕ) → k < begun_among s roles → PlaceFrom s i roles k (get_or (places_from s i roles) k 0)
unfolding places_from begun_among
place_from s i [] k h = absurd (omega arith)
place_from s i (r ∷ roles) k h = go (λ j. place_from s (i + 1) roles j) (begins_test s r) refl k h
  where
    later :
        (k m : ℕ)
        → PlaceFrom s (i + 1) roles k m
        → {n : ℕ}
        → one_added_if (begins_test s r) k ≡ n
        → PlaceFrom s i (r ∷ roles) n m
    later k m f e =
        let z = f.place in
        record {
          behind = suc f.behind;
          at_is = omega (arith, f.at_is);
          place = record { inside = omega (arith, z.inside); begins = z.begins; passed = ap (one_added_if (begins_test s r)) z.passed ∙ e };
        }

    go :
        ((k : ℕ) → k < begun_among s roles → PlaceFrom s (i + 1) roles k (get_or (places_from s (i + 1) roles) k 0))
        → (t : Bool)
        → begins_test s r ≡ t
        → (k : ℕ)
        → k < one_added_if (begins_test s r) (begun_among s roles)
        → PlaceFrom s i (r ∷ roles) k (get_or (place_if (begins_test s r) i (places_from s (i + 1) roles)) k 0)
    go f true e zero h = rw e (record { behind = 0; at_is = omega arith; place = record { inside = omega arith; begins = e; passed = refl } })
    go f true e (suc k) h = rw e (later k _ (f k (omega (arith, rw e at h))) (rw e (omega arith)))
    go f false e k h = rw e (later k _ (f k (rw e at h)) (rw e))

module _ (s : Section) (roles : List ℕ) {places : List ℕ} (e : places ≡ places_from s 0 roles) where
  pub places_count : length places ≡ begun_among s roles
  places_count = ap length e ∙ places_long s 0 roles

  pub place_at_lem : (k : ℕ) → k < length places → Place s roles k (get_or places k 0)
  place_at_lem k h =
      let f = place_from s 0 roles k (omega (arith, places_count)) in
      let a : get_or places k 0 ≡ f.behind = ap (λ (l : List ℕ). get_or l k 0) e ∙ f.at_is ∙ omega arith in
      rw a f.place

  -- the places before token i are as many as the records that begin before it
  pub parted : (i : ℕ) → IsPartitionedBy (λ y. ltb y i) places
  parted i j k d h l t =
      ⊎_elim
      (λ (q : j ≡ k). rw q t)
      (λ (q : j < k).
      let z = place_at_lem j (omega arith) in
      let y = place_at_lem k l in
      let m : get_or places j d ≤ get_or places k d = rw (get_or_default places j d 0 (omega arith), get_or_default places k d 0 l) (place_after y (omega (arith, z.passed))) in
      lt-ltb _ _ (omega (arith, ltb-true _ _ t)))
      (eq-or-lt_of_le h)

  pub parts_are : (i r : ℕ) → r ≤ length places → IsPartitionPoint (λ y. ltb y i ≡ true) (λ y. ltb y i ≡ false) places r → r ≡ begun_among s (take i roles)
  parts_are i r h p =
      let low : r ≤ begun_among s (take i roles) = go r (λ k l. ltb-true _ _ (p.0 k 0 (omega arith) l)) h in
      let high : begun_among s (take i roles) ≤ r =
      ⊎_elim
      (λ (q : r ≡ length places). omega (arith, places_count, begun_split s roles i))
      (λ (q : r < length places). place_until (place_at_lem r q) (ltb-false _ _ (p.1 r 0 (omega arith) q)))
      (eq-or-lt_of_le h)
      in
      omega arith
    where
      go : (n : ℕ) → ((k : ℕ) → k < n → get_or places k 0 < i) → n ≤ length places → n ≤ begun_among s (take i roles)
      go zero f h = omega arith
      go (suc n) f h = omega (arith, place_behind (place_at_lem n (omega arith)) {i = i} (f n (omega arith)))

-- records are counted by their first tokens
pub begun_counted : (s : Section) (roles : List ℕ) → begun_among s roles ≡ count_by (begins_test s) roles
unfolding begun_among
begun_counted s = is_count_by (begun_among s) (begins_test s) refl (λ r roles. go (begins_test s r) (begun_among s roles))
  where
    go : (t : Bool) (n : ℕ) → one_added_if t n ≡ cond t (1 + n) n
    go true n = omega arith
    go false n = refl

-- the places of a section, as a part of the index
pub index_part : {roles index : List ℕ} → IndexIs roles index → (s : Section) {n m : ℕ} → n ≡ begun_among s roles → index_of s + n ≤ RECORDS → m ≡ n → take m (drop (index_of s) index) ≡ places_from s 0 roles
index_part {roles} {index} x s {n} {m} e h q =
    let a : length (drop (index_of s) index) ≡ length index - index_of s = length-drop (index_of s) index in
    let l : length (take m (drop (index_of s) index)) ≡ m = length-take-le m (drop (index_of s) index) (omega (arith, x.long)) in
    let p : length (places_from s 0 roles) ≡ m = omega (arith, places_long s 0 roles) in
    ext_get_or 0 _ _ (l ∙ sym p) (λ i i<. get_or-take m (drop (index_of s) index) i 0 (omega arith) ∙ get_or-drop (index_of s) index i 0 ∙ x.places s i (omega arith))
