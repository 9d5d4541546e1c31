-- What the code asks of each token, up to the first that is at fault.
use Prim.Native.Nat.{ℕ, ◌+◌, ◌<◌, ◌≤◌}
use mathlib.Core.Path.{◌≡◌, refl, sym, ap, ◌∙◌}
use mathlib.Core.Bool.{Bool, true, false, not}
use mathlib.Core.List.{List, [], ◌∷◌, ◌++◌}
use native.Mathlib.Omega.{arith}
use borrow.Author.Count.{below_more}
use borrow.Author.Tests.{eq-eqb, ne_eqb, lt-ltb, le-ltb, not-false}
use lib.ListN.{length, get_or, take, set}
use Rattle.script.proofs.Tests.{true_false}
use Rattle.grammar.specs.Tokens.{Spelling, name_token}
use Rattle.grammar.specs.Files.{rank_in, declared_role}
use Rattle.std.specs.Prelude.{Some, None}
use Rattle.spellings.specs.declared.table.NameTable.{NameTable}
use Rattle.spellings.specs.Table.{name_from, OfNames, PlaceAmong}
use Rattle.numbering.specs.Numbers.{names_at, numbered}
use Rattle.numbering.specs.Chains.{FirstFrom}
use Rattle.declarations.specs.Declaring.{FirstOf, FirstFound, one_added_if, declared_in, again_at, type_named, nowhere_at, TypedTo, TypeAsked, TypesAsked}
use Rattle.numbering.proofs.Chains.{skipped}
use Rattle.numbering.proofs.NumberLaws.{numbered_past, numbered_with, roles_more, names_more, roles_length, as_many}

-- The search for the first of n stops, or comes to the end.
first_stop : {test : ℕ → Bool} {n : ℕ} (i : ℕ) → i < n → ((k : ℕ) → k < i → test k ≡ false) → test i ≡ true → FirstOf test n i
first_stop i h f p = record { reached = omega arith; within = omega arith; before = λ k a. f k; there = λ l. p }

pub first_end : {test : ℕ → Bool} (n i : ℕ) → i ≤ n → n ≤ i → ((k : ℕ) → k < i → test k ≡ false) → FirstOf test n n
first_end n i a b f = record { reached = omega arith; within = omega arith; before = λ k z l. f k (omega arith); there = λ l. absurd (omega arith) }

-- The declarations before a token are counted.
pub declared_with : (rs : List ℕ) (r : ℕ) → declared_in (rs ++ (r ∷ [])) ≡ one_added_if (declared_role r) (declared_in rs)
unfolding declared_in
declared_with [] r = refl
declared_with (q ∷ rs) r = rw (declared_with rs r) (two_more (declared_role q) (declared_role r) (declared_in rs))
  where
    two_more : (a b : Bool) (n : ℕ) → one_added_if a (one_added_if b n) ≡ one_added_if b (one_added_if a n)
    two_more true true n = refl
    two_more true false n = refl
    two_more false b n = refl

-- What the search along the declarations keeps, at any token.
pub record Counting (roles values : List ℕ) (n seen i : ℕ) : Type 0 where
  pub upto : i ≤ n
  pub fewer : seen ≤ i
  pub seen_is : seen ≡ declared_in (take i roles)
  pub none_before : (k : ℕ) → k < i → again_at roles values k ≡ false

module _ (roles values : List ℕ) (n : ℕ) (room : n ≤ length roles) where
  counting_none : Counting roles values n 0 0
  unfolding declared_in
  counting_none = record { upto = omega arith; fewer = omega arith; seen_is = refl; none_before = λ k h. absurd (omega arith) }

  counting_more : (seen i : ℕ) (b : Bool) → i < n → declared_role (get_or roles i 0) ≡ b → again_at roles values i ≡ false → Counting roles values n seen i → Counting roles values n (one_added_if b seen) (i + 1)
  counting_more seen i b h d p so_far =
      record {
        upto = omega arith;
        fewer = at_most b so_far.fewer;
        seen_is =
            ap (one_added_if b) so_far.seen_is
            ∙ sym (ap declared_in (roles_more [] roles roles i (omega arith) (omega arith)) ∙ (declared_with (take i roles) (get_or roles i 0) ∙ rw d));
        none_before = below_more (λ k. again_at roles values k ≡ false) i so_far.none_before p;
      }
    where
      at_most : (a : Bool) → seen ≤ i → one_added_if a seen ≤ i + 1
      at_most true u = omega arith
      at_most false u = omega arith

  -- Tokens before the next declaration are none.
  counting_on :
      {seen from i : ℕ}
      → FirstFrom (λ k. declared_role (get_or roles k 0)) from n i
      → Counting roles values n seen from
      → Counting roles values n seen i × (i < n → declared_role (get_or roles i 0) ≡ true)
  counting_on {seen} f w = (skipped (Counting roles values n seen) f (λ k h p v. counting_more seen k false h p (rw p) v) w, f.there)

  pub counting_first : {i : ℕ} → FirstFrom (λ k. declared_role (get_or roles k 0)) 0 n i → Counting roles values n 0 i × (i < n → declared_role (get_or roles i 0) ≡ true)
  counting_first f = counting_on f counting_none

  module _ (seen i : ℕ) (so_far : Counting roles values n seen i) (h : i < n) (d : declared_role (get_or roles i 0) ≡ true) where
    pub counting_stop : (get_or values i 0 ≡ seen → ⊥) → FirstFound (again_at roles values) n (Some i)
    counting_stop p = (first_stop i h so_far.none_before (rw (d, ← so_far.seen_is, ne_eqb (get_or values i 0) seen p)), h)

    pub counting_next :
        {next : ℕ}
        → get_or values i 0 ≡ seen
        → FirstFrom (λ k. declared_role (get_or roles k 0)) (i + 1) n next
        → Counting roles values n (seen + 1) next × (next < n → declared_role (get_or roles next 0) ≡ true)
    counting_next p f = counting_on f (counting_more seen i true h d (rw (d, ← so_far.seen_is, eq-eqb (get_or values i 0) seen p)) so_far)

-- What is said of a token that names a type.
module _ (text roles offsets values : List ℕ) (i : ℕ) (a : i < length roles) (b : i < length offsets) (names : List Spelling) where
  typed_past : type_named (get_or roles i 0) ≡ false → (before : List ℕ) → TypedTo names text roles offsets before i values → TypedTo names text roles offsets before (i + 1) values
  typed_past p before w =
      rw (roles_more text roles offsets i a b, names_more text roles offsets i a b)
      (w ∙ sym (numbered_past type_named names (get_or roles i 0) (name_token (name_from text (get_or offsets i 0))) p (take i roles) (names_at text (take i offsets)) before (as_many text roles offsets i a b)))

  typed_with :
      (e : ℕ)
      → type_named (get_or roles i 0) ≡ true
      → e ≡ rank_in names (name_from text (get_or offsets i 0))
      → (before : List ℕ)
      → TypedTo names text roles offsets before i values
      → TypedTo names text roles offsets before (i + 1) (set values i e)
  typed_with e p q before w =
      rw (roles_more text roles offsets i a b, names_more text roles offsets i a b, w, q)
      (sym (numbered_with type_named names (get_or roles i 0) (name_token (name_from text (get_or offsets i 0))) p (take i roles) (names_at text (take i offsets)) before (as_many text roles offsets i a b)
      ∙ rw (roles_length text roles offsets i a b)))

module _ (text roles offsets values : List ℕ) (i : ℕ) (a : i < length roles) (b : i < length offsets) (p : type_named (get_or roles i 0) ≡ true)
    (names : List Spelling) (count : ℕ) (l : length names ≡ count) where
  pub type_known : (e : ℕ) → PlaceAmong count (rank_in names (name_from text (get_or offsets i 0))) (Some e) → TypeAsked names text roles offsets values i (set values i e) true
  type_known e h =
      record {
        says = rw (p, lt-ltb (rank_in names (name_from text (get_or offsets i 0))) (length names) (omega (arith, h.0, h.1)));
        valued = λ z. typed_with text roles offsets values i a b names e p h.0;
      }

  pub type_nowhere : PlaceAmong count (rank_in names (name_from text (get_or offsets i 0))) None → TypeAsked names text roles offsets values i values false
  type_nowhere h =
      record {
        says = rw (p, le-ltb (rank_in names (name_from text (get_or offsets i 0))) (length names) (omega arith));
        valued = λ z. absurd (true_false (sym z));
      }

-- What the search along the names of types keeps, at any token.
pub record Asking {N : ℕ} (text roles offsets : List ℕ) (t : NameTable N) (n : ℕ) (before values : List ℕ) (i : ℕ) : Type 0 where
  pub upto : i ≤ n
  pub values_long : length values ≡ length before
  pub asked :
      OfNames text t (λ names. ((k : ℕ) → k < i → nowhere_at names text roles offsets k ≡ false) × TypedTo names text roles offsets before i values)

module _ {N : ℕ} (text roles offsets : List ℕ) (t : NameTable N) (n : ℕ) (before : List ℕ) (a : n ≤ length roles) (b : n ≤ length offsets) where
  asking_past :
      (values : List ℕ) (i : ℕ)
      → i < n
      → type_named (get_or roles i 0) ≡ false
      → Asking text roles offsets t n before values i
      → Asking text roles offsets t n before values (i + 1)
  asking_past values i h p so_far =
      record {
        upto = omega arith;
        values_long = so_far.values_long;
        asked =
            λ names k l. (
              below_more (λ j. nowhere_at names text roles offsets j ≡ false) i (so_far.asked names k l).0 (rw p),
              typed_past text roles offsets values i (omega arith) (omega arith) names p before (so_far.asked names k l).1,
            );
      }

  -- Tokens before the next name of a type are none.
  asking_on :
      {values : List ℕ} {from i : ℕ}
      → FirstFrom (λ k. type_named (get_or roles k 0)) from n i
      → Asking text roles offsets t n before values from
      → Asking text roles offsets t n before values i × (i < n → type_named (get_or roles i 0) ≡ true)
  asking_on {values} f w = (skipped (Asking text roles offsets t n before values) f (asking_past values) w, f.there)

  pub asking_first : {i : ℕ} → FirstFrom (λ k. type_named (get_or roles k 0)) 0 n i → Asking text roles offsets t n before before i × (i < n → type_named (get_or roles i 0) ≡ true)
  unfolding numbered
  asking_first f = asking_on f (record { upto = omega arith; values_long = refl; asked = λ names h l. (λ k b. absurd (omega arith), refl) })

  module _ (values : List ℕ) (i : ℕ) (so_far : Asking text roles offsets t n before values i) where
    pub asking_end : n ≤ i → OfNames text t (λ names. TypesAsked names text roles offsets before n values None)
    asking_end h names k l =
        let w = so_far.asked names k l in
        let e : i ≡ n = omega (arith, so_far.upto) in
        record { first = (first_end n i so_far.upto h w.0, tt); valued = λ z. rw e at w.1 }

    module _ (h : i < n) (values' : List ℕ) (yes : Bool) (told : OfNames text t (λ names. TypeAsked names text roles offsets values i values' yes)) where
      pub asking_stop : not yes ≡ true → OfNames text t (λ names. TypesAsked names text roles offsets before n values' (Some i))
      asking_stop p names k l =
          record {
            first = (first_stop i h (so_far.asked names k l).0 (sym (told names k l).says ∙ p), h);
            valued = λ z. cc;
          }

      pub asking_next :
          {next : ℕ}
          → not yes ≡ false
          → length values' ≡ length values
          → FirstFrom (λ k. type_named (get_or roles k 0)) (i + 1) n next
          → Asking text roles offsets t n before values' next × (next < n → type_named (get_or roles next 0) ≡ true)
      asking_next p e f =
          asking_on f
          (record {
            upto = omega arith;
            values_long = e ∙ so_far.values_long;
            asked =
                λ names k l. (
                  below_more (λ j. nowhere_at names text roles offsets j ≡ false) i (so_far.asked names k l).0 (sym (told names k l).says ∙ p),
                  (told names k l).valued (not-false yes p) before (so_far.asked names k l).1,
                );
          })
