-- The first token that is told is the first that is at fault.
use Prim.Native.Nat.{ℕ, zero, suc, ◌+◌, ◌-◌, ◌<◌, ◌≤◌}
use mathlib.Core.Path.{◌≡◌, refl, sym, ap, ◌∙◌}
use mathlib.Core.Bool.{Bool, true, false, not, ◌&&◌, ◌||◌}
use mathlib.Core.List.{List, [], ◌∷◌, ◌++◌}
use mathlib.Core.Logic.{⊎_elim}
use mathlib.Core.Option.{none, some}
use native.Mathlib.Omega.{arith}
use native.Mathlib.Numerals.{add-one}
use borrow.Author.Count.{below_more}
use borrow.Author.Tests.{eq-eqb, ne_eqb, lt-ltb, le-ltb}
use lib.Dec.{eqb, ltb}
use lib.ListN.{length, get_or, take, length-map, get_or-map}
use lib.Seq.{get_or-take, length-take-le}
use Rattle.std.specs.Prelude.{min, Option as CodeOption, Some, None}
use Rattle.script.specs.Asking.{Decides, holds, fails}
use Rattle.script.proofs.Tests.{true_false, yes_said, decides_as}
use Rattle.script.proofs.Lists.{lt_or_le}
use Rattle.grammar.specs.Tokens.{Spelling, name_token}
use Rattle.grammar.specs.Files.{rank_in, names_with, distinct, declared_role}
use Rattle.grammar.specs.Faults.{Marked, marked_by, first_fault, declared_among, again_test, nowhere_test, declaration_fault}
use Rattle.spellings.specs.Table.{name_from, grown}
use Rattle.spellings.proofs.Places.{Among, place_le}
use Rattle.numbering.specs.Numbers.{names_at, numbered, names_to}
use Rattle.declarations.specs.Declaring.{FirstOf, FirstFound, place_or, one_added_if, declared_in, again_at, type_named, nowhere_at, TypesAsked, marks_to, Declarations}
use Rattle.numbering.proofs.Distinct.{distinct_has, distinct_from, grown_has, grown_keeps, place_grown, place_own, length_new}
use Rattle.numbering.proofs.NumberLaws.{roles_more, names_more, roles_length, as_many, to_past, to_with, numbered_at}
use Rattle.declarations.proofs.Asking.{declared_with}
use Rattle.declarations.proofs.Marks.{mark_of, marked_more, marked_length, then_first, fault_more, declared_among_lem}

-- Tests that agree as long as no token before is at fault have the same first one.
pub first_as :
    {P Q : ℕ → Bool} {n r : ℕ}
    → ((k : ℕ) → k < n → ((j : ℕ) → j < k → Q j ≡ false) → P k ≡ Q k)
    → FirstOf P n r
    → FirstOf Q n r
first_as {P} {Q} {n} {r} same f =
    record {
      reached = omega arith;
      within = f.within;
      before = λ k z. none_to r (omega arith) k;
      there = λ h. sym (same r h (none_to r (omega arith))) ∙ f.there h;
    }
  where
    none_to : (m : ℕ) → m ≤ r → (k : ℕ) → k < m → Q k ≡ false
    none_to zero h = λ k l. absurd (omega arith)
    none_to (suc m) h =
        let rest : (k : ℕ) → k < m → Q k ≡ false = none_to m (omega arith) in
        rw (← add-one m) (below_more (λ k. Q k ≡ false) m rest (sym (same m (omega (arith, f.within)) rest) ∙ f.before m (omega arith) (omega arith)))

-- The lower of two firsts.
or_no : (a b : Bool) → a ≡ false → b ≡ false → a || b ≡ false
or_no a b p q = rw (p, q)

pub or_right : (a b : Bool) → b ≡ true → a || b ≡ true
or_right true b p = refl
or_right false b p = p

pub lower_first : {P Q : ℕ → Bool} {n a b : ℕ} → FirstOf P n a → FirstOf Q n b → a < b → FirstOf (λ k. P k || Q k) n a
lower_first {P} {Q} {n} {a} {b} f g h =
    record {
      reached = omega arith;
      within = f.within;
      before = λ k z l. or_no (P k) (Q k) (f.before k z l) (g.before k z (omega arith));
      there = λ l. rw (f.there l);
    }

pub lower_second : {P Q : ℕ → Bool} {n a b : ℕ} → FirstOf P n a → FirstOf Q n b → b ≤ a → FirstOf (λ k. P k || Q k) n b
lower_second {P} {Q} {n} {a} {b} f g h =
    record {
      reached = omega arith;
      within = g.within;
      before = λ k z l. or_no (P k) (Q k) (f.before k z (omega arith)) (g.before k z l);
      there = λ l. or_right (P b) (Q b) (g.there l);
    }

module _ (text roles offsets : List ℕ) (n : ℕ) (a : n ≤ length roles) (b : n ≤ length offsets) where
  abbrev name_of : ℕ → Spelling
  name_of k = name_from text (get_or offsets k 0)

  abbrev mark : ℕ → Marked
  mark k = mark_of (get_or roles k 0) (name_token (name_of k))

  abbrev known : ℕ → List Spelling
  known k = names_to declared_role text roles offsets k

  marks_more : (k : ℕ) → k < n → marks_to text roles offsets (k + 1) ≡ marks_to text roles offsets k ++ (mark k ∷ [])
  marks_more k h =
      let u : k < length roles = omega arith in
      let w : k < length offsets = omega arith in
      rw (roles_more text roles offsets k u w, names_more text roles offsets k u w)
      (marked_more (take k roles) (names_at text (take k offsets)) (get_or roles k 0) (name_token (name_of k)) (as_many text roles offsets k u w))

  marks_length : (k : ℕ) → k < n → length (marks_to text roles offsets k) ≡ k
  marks_length k h =
      let u : k < length roles = omega arith in
      let w : k < length offsets = omega arith in
      marked_length (take k roles) (names_at text (take k offsets)) (as_many text roles offsets k u w) ∙ roles_length text roles offsets k u w

  -- The first fault of a test that asks what is before a token.
  module _ (test : List Marked → Marked → Bool) where
    fault_step : (k : ℕ) → k < n → first_fault (λ x m y. test x m) [] (marks_to text roles offsets (k + 1)) ≡ then_first (first_fault (λ x m y. test x m) [] (marks_to text roles offsets k)) (test (marks_to text roles offsets k) (mark k)) k
    fault_step k h =
        ap (first_fault (λ x m y. test x m) []) (marks_more k h)
        ∙ (fault_more test (mark k) [] (marks_to text roles offsets k)
        ∙ ap (then_first (first_fault (λ x m y. test x m) [] (marks_to text roles offsets k)) (test (marks_to text roles offsets k) (mark k))) (marks_length k h))

    fault_none : (k : ℕ) → k ≤ n → ((j : ℕ) → j < k → test (marks_to text roles offsets j) (mark j) ≡ false) → first_fault (λ x m y. test x m) [] (marks_to text roles offsets k) ≡ none
    unfolding first_fault marked_by
    fault_none zero h f = refl
    fault_none (suc k) h f = rw (← add-one k) (fault_step k (omega arith) ∙ rw (fault_none k (omega arith) (λ j l. f j (omega arith)), f k (omega arith)))

    fault_some :
        (r m : ℕ)
        → r + 1 + m ≤ n
        → ((j : ℕ) → j < r → test (marks_to text roles offsets j) (mark j) ≡ false)
        → test (marks_to text roles offsets r) (mark r) ≡ true
        → first_fault (λ x m y. test x m) [] (marks_to text roles offsets (r + 1 + m)) ≡ some r
    fault_some r zero h f t =
        let e : r + 1 + 0 ≡ r + 1 = omega arith in
        rw e (fault_step r (omega arith) ∙ rw (fault_none r (omega arith) f, t))
    fault_some r (suc m) h f t =
        let e : r + 1 + suc m ≡ r + 1 + m + 1 = omega arith in
        rw e (fault_step (r + 1 + m) (omega arith) ∙ rw (fault_some r m (omega arith) f t))

    pub fault_found : (r : ℕ) → r < n → FirstOf (λ k. test (marks_to text roles offsets k) (mark k)) n r → first_fault (λ x m y. test x m) [] (marks_to text roles offsets n) ≡ some r
    fault_found r h f =
        let s : r + 1 + (n - (r + 1)) ≡ n = omega arith in
        rw (← s) (fault_some r (n - (r + 1)) (omega arith) (λ k. f.before k (omega arith)) (f.there h))

    pub no_fault : FirstOf (λ k. test (marks_to text roles offsets k) (mark k)) n n → first_fault (λ x m y. test x m) [] (marks_to text roles offsets n) ≡ none
    no_fault f = fault_none n (omega arith) (λ k l. f.before k (omega arith) l)

  -- Names that are known stay so, at their places.
  names_stay : (k : ℕ) (z : Spelling) → Among (known k) z → (m : ℕ) → k + m ≤ n → Among (known (k + m)) z × (rank_in (known (k + m)) z ≡ rank_in (known k) z)
  names_stay k z h zero l = let e : k + 0 ≡ k = omega arith in rw e (h, refl)
  names_stay k z h (suc m) l =
      let e : k + suc m ≡ k + m + 1 = omega arith in
      rw e (go (declared_role (get_or roles (k + m) 0)) refl (names_stay k z h m (omega arith)))
    where
      go :
          (q : Bool)
          → declared_role (get_or roles (k + m) 0) ≡ q
          → Among (known (k + m)) z × (rank_in (known (k + m)) z ≡ rank_in (known k) z)
          → Among (known (k + m + 1)) z × (rank_in (known (k + m + 1)) z ≡ rank_in (known k) z)
      go true d f =
          rw (to_with text roles offsets (k + m) (omega arith) (omega arith) declared_role d)
          (grown_keeps (known (k + m)) (name_of (k + m)) z f.0, place_grown (known (k + m)) (name_of (k + m)) z f.0 ∙ f.1)
      go false d f = rw (to_past text roles offsets (k + m) (omega arith) (omega arith) declared_role d) f

  -- So the place of a declared name is its place among the names declared before it.
  place_at_lem : (k : ℕ) → k < n → declared_role (get_or roles k 0) ≡ true → rank_in (known n) (name_of k) ≡ rank_in (known k) (name_of k)
  place_at_lem k h d =
      let w : known (k + 1) ≡ grown (known k) (name_of k) = to_with text roles offsets k (omega arith) (omega arith) declared_role d in
      let there : Among (known (k + 1)) (name_of k) = rw w (grown_has (known k) (name_of k)) in
      let s : k + 1 + (n - (k + 1)) ≡ n = omega arith in
      let stay = names_stay (k + 1) (name_of k) there (n - (k + 1)) (omega arith) in
      (rw s at stay.1) ∙ rw w (place_own (known k) (name_of k))

  -- Where none is declared again, as many names are known as tokens declare.
  abbrev again : ℕ → Bool
  again k = again_test (marks_to text roles offsets k) (mark k)

  known_among : (k : ℕ) → Decides (Among (known k) (name_of k)) (declared_among (name_of k) (marks_to text roles offsets k))
  known_among k =
      let l = names_with declared_role (take k roles) (names_at text (take k offsets)) in
      decides_as (distinct_has l (name_of k)) (distinct_from l (name_of k)) (declared_among_lem (name_of k) (take k roles) (names_at text (take k offsets)))

  not_among : (k : ℕ) → declared_among (name_of k) (marks_to text roles offsets k) ≡ false → Among (known k) (name_of k) → ⊥
  not_among k e h = true_false (sym (yes_said (known_among k) h) ∙ e)

  seen_known : (k : ℕ) → k ≤ n → ((j : ℕ) → j < k → again j ≡ false) → declared_in (take k roles) ≡ length (known k)
  unfolding declared_in names_with distinct
  seen_known zero h f = refl
  seen_known (suc k) h f =
      rw (← add-one k) (go (declared_role (get_or roles k 0)) refl (seen_known k (omega arith) (λ j l. f j (omega arith))) (f k (omega arith)))
    where
      more : declared_in (take (k + 1) roles) ≡ one_added_if (declared_role (get_or roles k 0)) (declared_in (take k roles))
      more = ap declared_in (roles_more text roles offsets k (omega arith) (omega arith)) ∙ declared_with (take k roles) (get_or roles k 0)

      go :
          (q : Bool)
          → declared_role (get_or roles k 0) ≡ q
          → declared_in (take k roles) ≡ length (known k)
          → again k ≡ false
          → declared_in (take (k + 1) roles) ≡ length (known (k + 1))
      go true d e g =
          let new : declared_among (name_of k) (marks_to text roles offsets k) ≡ false = rw d at g in
          let end : length (known k) ≤ rank_in (known k) (name_of k) = ⊎_elim (λ (l : Among (known k) (name_of k)). absurd (not_among k new l)) (λ l. l) (lt_or_le (rank_in (known k) (name_of k)) (length (known k))) in
          more
          ∙ (rw (d, to_with text roles offsets k (omega arith) (omega arith) declared_role d, e)
          (sym (length_new (known k) (name_of k) (length (known k)) (rank_in (known k) (name_of k)) refl refl end)))
      go false d e g = more ∙ rw (d, to_past text roles offsets k (omega arith) (omega arith) declared_role d) e

  -- The code's tests are the tests of the definition.
  pub again_same :
      (values : List ℕ)
      → ((k : ℕ) → k < n → declared_role (get_or roles k 0) ≡ true → get_or values k 0 ≡ rank_in (known n) (name_of k))
      → (k : ℕ)
      → k < n
      → ((j : ℕ) → j < k → again j ≡ false)
      → again_at roles values k ≡ again k
  again_same values v k h f = go (declared_role (get_or roles k 0)) refl
    where
      told : (q : Bool) → Decides (Among (known k) (name_of k)) q → not (eqb (rank_in (known k) (name_of k)) (length (known k))) ≡ q
      told true (holds p) = rw (ne_eqb (rank_in (known k) (name_of k)) (length (known k)) (λ e. omega arith))
      told false (fails p) =
          let e : rank_in (known k) (name_of k) ≡ length (known k) = ⊎_elim (λ (l : Among (known k) (name_of k)). absurd (p l)) (λ l. omega (arith, l, place_le (known k) (name_of k))) (lt_or_le (rank_in (known k) (name_of k)) (length (known k))) in
          rw (eq-eqb (rank_in (known k) (name_of k)) (length (known k)) e)

      go : (q : Bool) → declared_role (get_or roles k 0) ≡ q → again_at roles values k ≡ again k
      go true d =
          rw (d, v k h d, place_at_lem k h d, seen_known k (omega arith) f)
          (told (declared_among (name_of k) (marks_to text roles offsets k)) (known_among k))
      go false d = rw d

  pub nowhere_same : (k : ℕ) → nowhere_at (known n) text roles offsets k ≡ nowhere_test (marks_to text roles offsets n) (mark k)
  nowhere_same k = ap (λ (q : Bool). type_named (get_or roles k 0) && not q) (told (declared_among (name_of k) (marks_to text roles offsets n)) among)
    where
      among : Decides (Among (known n) (name_of k)) (declared_among (name_of k) (marks_to text roles offsets n))
      among =
          let l = names_with declared_role (take n roles) (names_at text (take n offsets)) in
          decides_as (distinct_has l (name_of k)) (distinct_from l (name_of k)) (declared_among_lem (name_of k) (take n roles) (names_at text (take n offsets)))

      told : (q : Bool) → Decides (Among (known n) (name_of k)) q → ltb (rank_in (known n) (name_of k)) (length (known n)) ≡ q
      told true (holds p) = lt-ltb (rank_in (known n) (name_of k)) (length (known n)) p
      told false (fails p) = le-ltb (rank_in (known n) (name_of k)) (length (known n)) (⊎_elim (λ (l : Among (known n) (name_of k)). absurd (p l)) (λ l. l) (lt_or_le (rank_in (known n) (name_of k)) (length (known n))))

  -- Declared names that are numbered have the places of their names.
  name_at_lem : (k : ℕ) → k < n → get_or (names_at text (take n offsets)) k (name_token (name_from text 0)) ≡ name_token (name_of k)
  name_at_lem k h = get_or-map (λ (at : ℕ). name_token (name_from text at)) (take n offsets) k 0 ∙ ap (λ (at : ℕ). name_token (name_from text at)) (get_or-take n offsets k 0 h)

  many : length (take n roles) ≡ length (names_at text (take n offsets))
  many = length-take-le n roles a ∙ sym (length-map (take n offsets) (λ (at : ℕ). name_token (name_from text at)) ∙ length-take-le n offsets b)

  module _ (before values : List ℕ) (room : n ≤ length before)
      (is : values ≡ numbered declared_role (known n) (take n roles) (names_at text (take n offsets)) before) where
    value_at_lem : (k : ℕ) → k < n → declared_role (get_or roles k 0) ≡ true → get_or values k 0 ≡ rank_in (known n) (name_of k)
    value_at_lem k h d =
        ap (λ (l : List ℕ). get_or l k 0) is
        ∙ (numbered_at declared_role (known n) (name_token (name_from text 0)) (take n roles) (names_at text (take n offsets)) before k many (omega (arith, length-take-le n roles a)) (omega arith)
        ∙ rw (get_or-take n roles k 0 h, d, name_at_lem k h))

    module _ (values' : List ℕ) (r s : CodeOption ℕ) (asked-again : FirstFound (again_at roles values) n r) (asked : TypesAsked (known n) text roles offsets values n values' s) where
      again_first : FirstOf again n (place_or n r)
      again_first = first_as (again_same values value_at_lem) asked-again.0

      nowhere_first : FirstOf (λ k. nowhere_test (marks_to text roles offsets n) (mark k)) n (place_or n s)
      nowhere_first = first_as (λ k h f. nowhere_same k) asked.first.0

      abbrev faulty : List Marked → Marked → Bool
      faulty x m = again_test x m || nowhere_test (marks_to text roles offsets n) m

      -- The lower of the two places is that of the first fault.
      pub declared_again : (a : ℕ) → place_or n r ≡ a → a < n → a < place_or n s → Declarations text roles offsets before n values' (Some a)
      unfolding declaration_fault
      declared_again a e w h =
          record {
            within = w;
            fault = fault_found faulty a w (lower_first (rw e at again_first) nowhere_first h);
            valued = λ z. cc;
          }

      pub declared_nowhere : (b : ℕ) → place_or n s ≡ b → b < n → b ≤ place_or n r → Declarations text roles offsets before n values' (Some b)
      unfolding declaration_fault
      declared_nowhere b e w h =
          record {
            within = w;
            fault = fault_found faulty b w (lower_second again_first (rw e at nowhere_first) h);
            valued = λ z. cc;
          }

      pub declared_once : r ≡ None → s ≡ None → Declarations text roles offsets before n values' None
      unfolding declaration_fault
      declared_once p q =
          record {
            within = tt;
            fault = no_fault faulty (lower_second (rw p at again_first) (rw q at nowhere_first) (omega arith));
            valued = λ e. rw (← is) (asked.valued q);
          }

-- Of two places the lower is told.
module _ (text roles offsets : List ℕ) (n : ℕ) (a : n ≤ length roles) (b : n ≤ length offsets) (before values : List ℕ) (room : n ≤ length before)
    (is : values ≡ numbered declared_role (names_to declared_role text roles offsets n) (take n roles) (names_at text (take n offsets)) before)
    (values' : List ℕ) (r s : CodeOption ℕ) (f : FirstFound (again_at roles values) n r)
    (g : TypesAsked (names_to declared_role text roles offsets n) text roles offsets values n values' s) where
  pub told_both : (x y z : ℕ) → r ≡ Some x → s ≡ Some y → z ≡ min x y → Declarations text roles offsets before n values' (Some z)
  told_both x y z p q e =
      ⊎_elim
      (λ (l : x < y). let q' : z ≡ x = omega arith in rw q' (declared_again text roles offsets n a b before values room is values' r s f g x (rw p refl) (rw p at f.1) (rw q l)))
      (λ (l : y ≤ x). let q' : z ≡ y = omega arith in rw q' (declared_nowhere text roles offsets n a b before values room is values' r s f g y (rw q refl) (rw q at g.first.1) (rw p l)))
      (lt_or_le x y)

  pub told_again : (x : ℕ) → r ≡ Some x → s ≡ None → Declarations text roles offsets before n values' (Some x)
  told_again x p q = declared_again text roles offsets n a b before values room is values' r s f g x (rw p refl) (rw p at f.1) (rw q (rw p at f.1))

  pub told_nowhere : r ≡ None → Declarations text roles offsets before n values' s
  told_nowhere p = go s refl
    where
      go : (v : CodeOption ℕ) → s ≡ v → Declarations text roles offsets before n values' v
      go (Some y) q =
          let l : y < n = rw q at g.first.1 in
          declared_nowhere text roles offsets n a b before values room is values' r s f g y (rw q refl) l (rw p (omega (arith, l)))
      go None q = declared_once text roles offsets n a b before values room is values' r s f g p q
