-- Values of tokens, one token after another.
use Prim.Native.Nat.{ℕ, zero, suc, ◌+◌, ◌<◌, ◌≤◌}
use mathlib.Core.Path.{◌≡◌, refl, sym, ap, ◌∙◌}
use mathlib.Core.Bool.{Bool, true, false}
use mathlib.Core.List.{List, [], ◌∷◌, ◌++◌, map-append}
use native.Mathlib.Omega.{arith}
use native.Mathlib.Numerals.{add-one}
use lib.ListN.{length, get_or, take, set, length-map}
use lib.Seq.{take-suc, length-take-le}
use Rattle.grammar.specs.Tokens.{Spelling, Lexeme, name_token}
use Rattle.grammar.specs.Files.{spelling_of, names_with, distinct, rank_in}
use Rattle.spellings.specs.declared.table.NameTable.{NameTable}
use Rattle.spellings.specs.Table.{name_from, Holds, TableFilled, grown, PlaceIs, Grows, CountGrows}
use Rattle.spellings.proofs.Places.{Among, place_le}
use Rattle.numbering.specs.Numbers.{names_at, numbered, chosen_number, names_to, NumberedTo, Numbers}
use Rattle.numbering.specs.Chains.{FirstFrom}
use Rattle.numbering.proofs.Chains.{skipped}
use Rattle.numbering.proofs.Distinct.{distinct_more, place_grown, place_own, among_first, among_behind, distinct_has, distinct_few}

module _ (test : ℕ → Bool) where
  -- The names of one token more.
  pub names_with_lem : (r : ℕ) (t : Lexeme) → test r ≡ true → (rs : List ℕ) (ts : List Lexeme) → length rs ≡ length ts → names_with test (rs ++ (r ∷ [])) (ts ++ (t ∷ [])) ≡ names_with test rs ts ++ (spelling_of t ∷ [])
  unfolding names_with
  names_with_lem r t p [] [] e = rw p
  names_with_lem r t p [] (u ∷ ts) e = absurd (omega arith)
  names_with_lem r t p (q ∷ rs) [] e = absurd (omega arith)
  names_with_lem r t p (q ∷ rs) (u ∷ ts) e = go (test q) refl (names_with_lem r t p rs ts (omega arith))
    where
      go : (b : Bool) → test q ≡ b → names_with test (rs ++ (r ∷ [])) (ts ++ (t ∷ [])) ≡ names_with test rs ts ++ (spelling_of t ∷ []) → names_with test (q ∷ (rs ++ (r ∷ []))) (u ∷ (ts ++ (t ∷ []))) ≡ names_with test (q ∷ rs) (u ∷ ts) ++ (spelling_of t ∷ [])
      go true d f = rw (d, f)
      go false d f = rw (d, f)

  pub names_past : (r : ℕ) (t : Lexeme) → test r ≡ false → (rs : List ℕ) (ts : List Lexeme) → length rs ≡ length ts → names_with test (rs ++ (r ∷ [])) (ts ++ (t ∷ [])) ≡ names_with test rs ts
  unfolding names_with
  names_past r t p [] [] e = rw p
  names_past r t p [] (u ∷ ts) e = absurd (omega arith)
  names_past r t p (q ∷ rs) [] e = absurd (omega arith)
  names_past r t p (q ∷ rs) (u ∷ ts) e = rw (names_past r t p rs ts (omega arith))

  names_few : (rs : List ℕ) (ts : List Lexeme) → length (names_with test rs ts) ≤ length rs
  unfolding names_with
  names_few [] ts = omega arith
  names_few (r ∷ rs) [] = omega arith
  names_few (r ∷ rs) (t ∷ ts) = go (test r) refl (names_few rs ts)
    where
      go : (b : Bool) → test r ≡ b → length (names_with test rs ts) ≤ length rs → length (names_with test (r ∷ rs) (t ∷ ts)) ≤ suc (length rs)
      go true d h = rw d (omega arith)
      go false d h = rw d (omega arith)

  pub names_once : (rs : List ℕ) (ts : List Lexeme) → length (distinct (names_with test rs ts)) ≤ length rs
  names_once rs ts = omega (arith, distinct_few (names_with test rs ts), names_few rs ts)

  -- Its value.
  pub numbered_with : (l : List Spelling) (r : ℕ) (t : Lexeme) → test r ≡ true → (rs : List ℕ) (ts : List Lexeme) (vs : List ℕ) → length rs ≡ length ts → numbered test l (rs ++ (r ∷ [])) (ts ++ (t ∷ [])) vs ≡ set (numbered test l rs ts vs) (length rs) (rank_in l (spelling_of t))
  unfolding numbered
  numbered_with l r t p [] [] [] e = refl
  numbered_with l r t p [] [] (v ∷ vs) e = rw p
  numbered_with l r t p [] (u ∷ ts) vs e = absurd (omega arith)
  numbered_with l r t p (q ∷ rs) [] vs e = absurd (omega arith)
  numbered_with l r t p (q ∷ rs) (u ∷ ts) [] e = refl
  numbered_with l r t p (q ∷ rs) (u ∷ ts) (v ∷ vs) e = rw (numbered_with l r t p rs ts vs (omega arith))

  pub numbered_past : (l : List Spelling) (r : ℕ) (t : Lexeme) → test r ≡ false → (rs : List ℕ) (ts : List Lexeme) (vs : List ℕ) → length rs ≡ length ts → numbered test l (rs ++ (r ∷ [])) (ts ++ (t ∷ [])) vs ≡ numbered test l rs ts vs
  unfolding numbered
  numbered_past l r t p [] [] [] e = refl
  numbered_past l r t p [] [] (v ∷ vs) e = rw p
  numbered_past l r t p [] (u ∷ ts) vs e = absurd (omega arith)
  numbered_past l r t p (q ∷ rs) [] vs e = absurd (omega arith)
  numbered_past l r t p (q ∷ rs) (u ∷ ts) [] e = refl
  numbered_past l r t p (q ∷ rs) (u ∷ ts) (v ∷ vs) e = rw (numbered_past l r t p rs ts vs (omega arith))

  -- The value of each token.
  pub numbered_at :
      (l : List Spelling) (d : Lexeme) (rs : List ℕ) (ts : List Lexeme) (vs : List ℕ) (k : ℕ)
      → length rs ≡ length ts
      → k < length rs
      → k < length vs
      → get_or (numbered test l rs ts vs) k 0 ≡ chosen_number (test (get_or rs k 0)) (rank_in l (spelling_of (get_or ts k d))) (get_or vs k 0)
  unfolding numbered
  numbered_at l d [] ts vs k e h w = absurd (omega arith)
  numbered_at l d (r ∷ rs) [] vs k e h w = absurd (omega arith)
  numbered_at l d (r ∷ rs) (t ∷ ts) [] k e h w = absurd (omega arith)
  numbered_at l d (r ∷ rs) (t ∷ ts) (v ∷ vs) zero e h w = refl
  numbered_at l d (r ∷ rs) (t ∷ ts) (v ∷ vs) (suc k) e h w = numbered_at l d rs ts vs k (omega arith) (omega arith) (omega arith)

  -- A list that grows changes no value that is given.
  pub numbered_grown :
      (l : List Spelling) (y : Spelling) (rs : List ℕ) (ts : List Lexeme) (vs : List ℕ)
      → ((z : Spelling) → Among (names_with test rs ts) z → Among l z)
      → numbered test (grown l y) rs ts vs ≡ numbered test l rs ts vs
  unfolding numbered names_with
  numbered_grown l y [] ts vs f = refl
  numbered_grown l y (r ∷ rs) [] vs f = refl
  numbered_grown l y (r ∷ rs) (t ∷ ts) [] f = refl
  numbered_grown l y (r ∷ rs) (t ∷ ts) (v ∷ vs) f = go (test r) refl (numbered_grown l y rs ts vs) f
    where
      go :
          (b : Bool)
          → test r ≡ b
          → (((z : Spelling) → Among (names_with test rs ts) z → Among l z) → numbered test (grown l y) rs ts vs ≡ numbered test l rs ts vs)
          → ((z : Spelling) → Among (names_with test (r ∷ rs) (t ∷ ts)) z → Among l z)
          → numbered test (grown l y) (r ∷ rs) (t ∷ ts) (v ∷ vs) ≡ numbered test l (r ∷ rs) (t ∷ ts) (v ∷ vs)
      go true d g h =
          let h' : (z : Spelling) → Among (spelling_of t ∷ names_with test rs ts) z → Among l z = rw d at h in
          rw (d, g (λ z m. h' z (among_behind (spelling_of t) (names_with test rs ts) z m)), place_grown l y (spelling_of t) (h' (spelling_of t) (among_first (spelling_of t) (names_with test rs ts))))
      go false d g h = let h' : (z : Spelling) → Among (names_with test rs ts) z → Among l z = rw d at h in rw (d, g h')

-- One token more of the arrays.
module _ (text roles offsets : List ℕ) (i : ℕ) (a : i < length roles) (b : i < length offsets) where
  pub roles_more : take (i + 1) roles ≡ take i roles ++ (get_or roles i 0 ∷ [])
  roles_more = rw add-one (take-suc roles i 0 a)

  pub names_more : names_at text (take (i + 1) offsets) ≡ names_at text (take i offsets) ++ (name_token (name_from text (get_or offsets i 0)) ∷ [])
  names_more = rw (add-one, take-suc offsets i 0 b) (map-append (λ (at : ℕ). name_token (name_from text at)) (take i offsets) (get_or offsets i 0 ∷ []))

  pub roles_length : length (take i roles) ≡ i
  roles_length = length-take-le i roles (omega arith)

  pub as_many : length (take i roles) ≡ length (names_at text (take i offsets))
  as_many = roles_length ∙ sym (length-map (take i offsets) (λ (at : ℕ). name_token (name_from text at)) ∙ length-take-le i offsets (omega arith))

  module _ (test : ℕ → Bool) where
    pub to_past : test (get_or roles i 0) ≡ false → names_to test text roles offsets (i + 1) ≡ names_to test text roles offsets i
    to_past p = rw (roles_more, names_more) (ap distinct (names_past test (get_or roles i 0) (name_token (name_from text (get_or offsets i 0))) p (take i roles) (names_at text (take i offsets)) as_many))

    pub to_with : test (get_or roles i 0) ≡ true → names_to test text roles offsets (i + 1) ≡ grown (names_to test text roles offsets i) (name_from text (get_or offsets i 0))
    to_with p =
        rw (roles_more, names_more)
        (ap distinct (names_with_lem test (get_or roles i 0) (name_token (name_from text (get_or offsets i 0))) p (take i roles) (names_at text (take i offsets)) as_many)
        ∙ distinct_more (names_with test (take i roles) (names_at text (take i offsets))) (name_from text (get_or offsets i 0)))

    module _ {N : ℕ} (before values : List ℕ) (t : NameTable N) (so_far : NumberedTo test text roles offsets before i values t) where
      -- A token that is passed over.
      pub number_past : test (get_or roles i 0) ≡ false → NumberedTo test text roles offsets before (i + 1) values t
      number_past p =
          record {
            values_are =
                so_far.values_are
                ∙ rw (to_past p, roles_more, names_more)
                (sym (numbered_past test (names_to test text roles offsets i) (get_or roles i 0) (name_token (name_from text (get_or offsets i 0))) p (take i roles) (names_at text (take i offsets)) before as_many));
            holds = rw (to_past p) so_far.holds;
            counted = rw (to_past p) so_far.counted;
          }

      -- A token that gets a value.
      pub number_with :
          (e : ℕ) (values' : List ℕ) (t' : NameTable N)
          → test (get_or roles i 0) ≡ true
          → e ≡ rank_in (names_to test text roles offsets i) (name_from text (get_or offsets i 0))
          → values' ≡ set values i e
          → Holds text t' (grown (names_to test text roles offsets i) (name_from text (get_or offsets i 0)))
          → length (grown (names_to test text roles offsets i) (name_from text (get_or offsets i 0))) ≡ t'.count
          → NumberedTo test text roles offsets before (i + 1) values' t'
      number_with e values' t' p q v h l =
          let y = name_from text (get_or offsets i 0) in
          let known = names_to test text roles offsets i in
          let rs = take i roles in
          let ts = names_at text (take i offsets) in
          let still : numbered test (grown known y) rs ts before ≡ values = numbered_grown test known y rs ts before (distinct_has (names_with test rs ts)) ∙ sym so_far.values_are in
          let value : rank_in (grown known y) y ≡ e = place_own known y ∙ sym q in
          record {
            values_are =
                v
                ∙ rw (to_with p, roles_more, names_more)
                (sym (numbered_with test (grown known y) (get_or roles i 0) (name_token y) p rs ts before as_many ∙ rw (still, roles_length, value)));
            holds = rw (to_with p) h;
            counted = rw (to_with p) l;
          }

-- No token is numbered yet.
pub number_none : {N : ℕ} (test : ℕ → Bool) (text roles offsets values : List ℕ) (t : NameTable N) → Holds text t [] → t.count ≡ 0 → NumberedTo test text roles offsets values 0 values t
unfolding numbered names_with distinct
number_none test text roles offsets values t h e = record { values_are = refl; holds = h; counted = sym e }

-- The table of what is numbered.
pub held_of : {N : ℕ} {test : ℕ → Bool} {text roles offsets before values : List ℕ} {n : ℕ} {t : NameTable N} → NumberedTo test text roles offsets before n values t → TableFilled text t
held_of {test = test} {text} {roles} {offsets} {n = n} w = record { names = names_to test text roles offsets n; holds = w.holds; counted = w.counted }

-- What the code makes of token i.
pub token_with :
    {N : ℕ} (test : ℕ → Bool) (text roles offsets values : List ℕ) (t : NameTable N) (i e : ℕ) (t' : NameTable N)
    → i < length roles
    → i < length offsets
    → test (get_or roles i 0) ≡ true
    → PlaceIs text t (name_from text (get_or offsets i 0)) e
    → Grows text t (name_from text (get_or offsets i 0)) t'
    → CountGrows text t (name_from text (get_or offsets i 0)) t'
    → Numbers test text roles offsets i values t (set values i e) t'
token_with test text roles offsets values t i e t' a b q place grows size before w =
    let known = names_to test text roles offsets i in
    number_with text roles offsets i a b test before values t w e (set values i e) t'
    q (place known w.holds w.counted) refl (grows known w.holds w.counted) (size known w.holds w.counted)

-- There are at most as many names as tokens.
pub number_few :
    {N : ℕ} {test : ℕ → Bool} {text roles offsets before values : List ℕ} {n : ℕ} {t : NameTable N}
    → n ≤ length roles
    → NumberedTo test text roles offsets before n values t
    → t.count ≤ n
number_few {test = test} {text} {roles} {offsets} {n = n} h w =
    omega (arith, w.counted, names_once test (take n roles) (names_at text (take n offsets)), length-take-le n roles h)

-- The place of a name is a value.
pub place_small : {N : ℕ} (text : List ℕ) (t : NameTable N) (y : Spelling) (e : ℕ) → TableFilled text t → PlaceIs text t y e → e ≤ t.count
place_small text t y e h p = omega (arith, p h.names h.holds h.counted, place_le h.names y, h.counted)

-- What the loop along the chain keeps.
pub record Going {N : ℕ} (test : ℕ → Bool) (text roles offsets before : List ℕ) (n : ℕ) (values : List ℕ) (t : NameTable N) (i : ℕ) : Type 0 where
  pub upto : i ≤ n
  pub named : i < n → test (get_or roles i 0) ≡ true
  pub values_long : length values ≡ length before
  pub so_far : NumberedTo test text roles offsets before i values t

module _ {N : ℕ} (test : ℕ → Bool) (text roles offsets before : List ℕ) (n : ℕ) (a : n ≤ length roles) (b : n ≤ length offsets) (values : List ℕ) (t : NameTable N) where
  -- The tokens before the next name of the sort are passed over.
  pub going_on :
      {from i : ℕ}
      → length values ≡ length before
      → FirstFrom (λ k. test (get_or roles k 0)) from n i
      → NumberedTo test text roles offsets before from values t
      → Going test text roles offsets before n values t i
  going_on e f w =
      record {
        upto = f.within;
        named = f.there;
        values_long = e;
        so_far =
            skipped (λ k. NumberedTo test text roles offsets before k values t) f
            (λ k h p v. number_past text roles offsets k (omega arith) (omega arith) test before values t v p)
            w;
      }
