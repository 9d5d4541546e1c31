-- What the code of `contents` and `layout` answers: a law for each return, with the callees' results as variables.
use mathlib.Core.Path.{◌≡◌, refl, sym}
use mathlib.Core.Bool.{false}
use mathlib.Core.List.{List, [], ◌∷◌}
use Prim.Native.Nat.{ℕ, ◌+◌, ◌*◌, ◌<◌, ◌≤◌}
use native.Mathlib.Numerals.{add-one}
use native.Mathlib.Omega.{arith}
use lib.Dec.{eqb, leb}
use lib.ListN.{length, get_or, drop, get_or-eq_default, drop_of_length-le}
use lib.Seq.{drop-cons}
use borrow.Author.Tests.{eq-eqb, ne_eqb}
use Rattle.std.specs.List.{list_all}
use Rattle.words.specs.Word.{word_at}
use Rattle.limits.specs.Limits.{CONTENTS, FILE}
use Rattle.script.specs.Lists.{sum_below}
use Rattle.script.specs.declared.Section.{Section}
use Rattle.script.specs.declared.Section.TheVariants.{Interfaces as interfaces, Signatures as signatures, Classes as classes, Fields as fields, Methods as methods, Nodes as nodes}
use Rattle.script.specs.Section.{sections, entry_of, most_of, size_of, body_at, count_of, end_of, record_at, record_word}
use Rattle.script.specs.declared.Kind.{Kind}
use Rattle.script.specs.declared.Kind.TheVariants.{Null as null_kind, Variable as var_kind, Select as select_kind, Update as update_kind, Call as call_kind}
use Rattle.script.specs.declared.Kind.TheVariants.{Let as bind_kind, New as new_kind, Cast as cast_kind, Fork as fork_kind, Lock as lock_kind}
use Rattle.script.specs.declared.Kind.TheVariants.{Constant as constant_kind, Sum as add_kind, Unknown as unknown_kind}
use Rattle.script.specs.Reading.{kind_of}
use Rattle.script.specs.Questions.{within_test, placed_from, places_test}
use Rattle.sections.specs.Laid.{Laid, owner_of, own_of, owned_test}
use Rattle.sections.proofs.Access.{record_within, word_within}

-- A word past the kinds' numbers is read as of no known kind.
pub kind_unknown : (k : ℕ) → 12 ≤ k → unknown_kind ≡ kind_of k
unfolding kind_of
kind_unknown k h =
    let kinds : List Kind = null_kind ∷ var_kind ∷ select_kind ∷ update_kind ∷ call_kind ∷ bind_kind ∷ new_kind ∷ cast_kind ∷ fork_kind ∷ lock_kind
    ∷ constant_kind ∷ add_kind ∷ [] in
    sym (get_or-eq_default kinds unknown_kind h)

-- What the contents say of section k, and its records.
module _ (s : List ℕ) (k : Section) where
  pub body_is : (e r : ℕ) → e ≡ entry_of k → r ≡ word_at s (4 * e) → r ≡ body_at s k
  unfolding body_at
  body_is e r p q = rw p at q

  pub count_is_lem : (e r : ℕ) → e ≡ entry_of k → r ≡ word_at s (4 * e + 2) → r ≡ count_of s k
  unfolding count_of
  count_is_lem e r p q = rw p at q

  pub place_fits : (at size i : ℕ) → Laid s → i ≤ count_of s k → at ≡ body_at s k → size ≡ size_of k → at + size * i ≤ FILE
  place_fits at size i l h p q = rw (p, q) (record_within s k i l h)

  pub place_is : (at size i : ℕ) → at ≡ body_at s k → size ≡ size_of k → at + size * i ≡ record_at s k i
  unfolding record_at
  place_is at size i p q = rw (p, q)

  pub word_is : (i j at r : ℕ) → at ≡ record_at s k i → r ≡ word_at s (at + 2 * j) → r ≡ record_word s k i j
  unfolding record_word
  word_is i j at r p q = rw p at q

  pub word_inside : (i j at : ℕ) → Laid s → i < count_of s k → 2 * j + 1 < size_of k → at ≡ record_at s k i → (at + 2 * j + 1 < length s) × (length s ≤ FILE)
  word_inside i j at l h b p = (rw p (word_within s k i l j h b), l.length_is.most)

-- The records of the owner's section are the owners.
pub owner_is : (s : List ℕ) (k owner : Section) (n o : ℕ) → owner ≡ owner_of k → n ≡ count_of s owner → o < n → o < count_of s (owner_of k)
owner_is s k owner n o p q h = rw (← p, ← q) h

module _ (s : List ℕ) where
  -- Question 2: the counts of some sections.
  pub within_is : (ks : List Section) → list_all (λ k. leb (count_of s k) (most_of k)) ks ≡ within_test s ks
  unfolding within_test
  within_is [] = refl
  within_is (k ∷ ks) = rw (within_is ks)

  -- Question 3: what is left to ask once the sections before i got a yes, where the body before it ends at `at`.
  abbrev pub listed : List Section
  listed = interfaces ∷ signatures ∷ classes ∷ fields ∷ methods ∷ nodes ∷ []

  abbrev pub PlacesLeft : ℕ → ℕ → Type 0
  PlacesLeft at i = places_test s ≡ placed_from s at (drop i listed)

  pub places_all : PlacesLeft CONTENTS 0
  unfolding places_test sections
  places_all = refl

  module _ (d : Section) (i at body : ℕ) (h : i < 6) (l : PlacesLeft at i) (p : body ≡ body_at s (get_or listed i d)) where
    pub places_no : (body ≡ at → ⊥) → false ≡ places_test s
    unfolding placed_from
    places_no n = rw (l, drop-cons listed i d h, ← p, ne_eqb body at n)

    pub places_yes : (end : ℕ) → body ≡ at → end ≡ end_of s (get_or listed i d) → PlacesLeft end (i + 1)
    unfolding placed_from
    places_yes end e q = rw (l, drop-cons listed i d h, ← p, eq-eqb body at e, q, add-one)

  pub places_end : (i at : ℕ) → 6 ≤ i → PlacesLeft at i → eqb at (length s) ≡ places_test s
  unfolding placed_from
  places_end i at h l = let z : drop i listed ≡ [] = drop_of_length-le listed h in rw (l, z)

-- After the last owner.
pub owned_is : (s : List ℕ) (k owner : Section) (n sum o m : ℕ) → owner ≡ owner_of k → n ≡ count_of s owner → sum ≡ sum_below (own_of s k) o → o ≤ n → n ≤ o → m ≡ count_of s k → eqb sum m ≡ owned_test s k
owned_is s k owner n sum o m p q t a b e = let z : o ≡ n = omega arith in rw (t, e, z, q, p)
