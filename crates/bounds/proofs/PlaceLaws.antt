-- The index of records: its parts do not meet, and a token more puts its record's place into it.
use mathlib.Core.Path.{◌≡◌, refl, sym, ap, ◌∙◌}
use mathlib.Core.Bool.{Bool, true, false}
use mathlib.Core.List.{List, [], ◌∷◌, ◌++◌}
use mathlib.Core.Logic.{⊎_elim}
use Prim.Native.Nat.{ℕ, zero, suc, ◌+◌, ◌≤◌, ◌<◌}
use native.Mathlib.Omega.{arith}
use native.Mathlib.Numerals.{add-one}
use lib.Dec.{eqb}
use lib.ListN.{length, get_or, set, take, replicate, length-append, length-set, get_or-append}
use lib.Seq.{take-suc, length-take-le, get_or-set_same, get_or-set_other, get_or_at, set_out}
use borrow.Author.Tests.{eqb-true, eqb-false}
use Rattle.script.specs.declared.Section.{Section}
use Rattle.script.specs.declared.Section.TheVariants.{Interfaces as interfaces, Signatures as signatures, Classes as classes}
use Rattle.script.specs.declared.Section.TheVariants.{Fields as fields, Methods as methods, Nodes as nodes}
use Rattle.script.specs.Section.{entry_of, most_of}
use Rattle.script.proofs.Lists.{lt_or_le, zeros}
use Rattle.grammar.specs.Faults.{begins_test, one_more_if}
use Rattle.bounds.specs.Counting.{SECTIONS, mosts, full_test}
use Rattle.bounds.specs.Places.{total, place_if, places_from, index_of, RECORDS, index_start}
use Rattle.bounds.proofs.Pass.{most_at, entry_below, room, one_counted}

-- where the part of a section begins
pub start_is : (s : Section) → index_start (entry_of s) ≡ index_of s
unfolding index_start total mosts
start_is interfaces = refl
start_is signatures = refl
start_is classes = refl
start_is fields = refl
start_is methods = refl
start_is nodes = refl

-- what comes before entry k has room for entry e, if that is earlier
room_before : (l : List ℕ) (e k : ℕ) → e < k → k ≤ length l → total (take e l) + get_or l e 0 ≤ total (take k l)
unfolding total
room_before [] e k h b = absurd (omega arith)
room_before (n ∷ l) e zero h b = absurd (omega arith)
room_before (n ∷ l) zero (suc k) h b = omega arith
room_before (n ∷ l) (suc e) (suc k) h b = omega (arith, room_before l e k (omega arith) (omega arith))

all_mosts : length mosts ≡ SECTIONS
unfolding mosts
all_mosts = refl

all_records : index_start SECTIONS ≡ RECORDS
unfolding index_start mosts total
all_records = refl

earlier : (e k : ℕ) → e < k → k ≤ SECTIONS → index_start e + get_or mosts e 0 ≤ index_start k
unfolding index_start
earlier e k h b = room_before mosts e k h (omega (arith, all_mosts))

-- a place in the part of another entry is none in the part of a section
apart :
    (s : Section) (e c k : ℕ)
    → e ≤ SECTIONS
    → (e < SECTIONS → c < get_or mosts e 0)
    → (e ≡ entry_of s → ⊥)
    → k < most_of s
    → index_of s + k ≡ index_start e + c
    → ⊥
apart s e c k b l ne m q =
    ⊎_elim
    (λ (h : e < entry_of s). omega (arith, earlier e (entry_of s) h (omega (arith, entry_below s)), l (omega (arith, entry_below s)), start_is s))
    (λ (h : entry_of s ≤ e). omega (arith, earlier (entry_of s) e (omega (arith, ne)) b, start_is s, most_at s))
    (lt_or_le e (entry_of s))

-- a place in a part is one of the index
pub place_below : (counts : List ℕ) (e : ℕ) → e < SECTIONS → full_test counts e ≡ false → index_start e + get_or counts e 0 < RECORDS
place_below counts e h f = omega (arith, earlier e SECTIONS h (omega arith), room counts e h f, all_records)

pub section_below : (counts : List ℕ) (s : Section) → full_test counts (entry_of s) ≡ false → index_of s + get_or counts (entry_of s) 0 < RECORDS
section_below counts s f = rw (← start_is s) (place_below counts (entry_of s) (entry_below s) f)

pub no_place : (counts index : List ℕ) (e i : ℕ) → length index ≡ RECORDS → e ≡ SECTIONS → index ≡ set index (index_start e + get_or counts e 0) i
no_place counts index e i l h = sym (set_out index (index_start e + get_or counts e 0) i (omega (arith, all_records, ap index_start h)))

-- the places among one role more
place_append : (b : Bool) (i : ℕ) (l m : List ℕ) → place_if b i (l ++ m) ≡ place_if b i l ++ m
place_append true i l m = refl
place_append false i l m = refl

places_append : (s : Section) (i : ℕ) (l : List ℕ) (r : ℕ) → places_from s i (l ++ (r ∷ [])) ≡ places_from s i l ++ place_if (begins_test s r) (i + length l) []
unfolding places_from
places_append s i [] r = ap (λ (j : ℕ). place_if (begins_test s r) j []) (omega arith)
places_append s i (x ∷ l) r =
    let next : i + 1 + length l ≡ i + suc (length l) = omega arith in
    rw (places_append s (i + 1) l r, next) (place_append (begins_test s x) i (places_from s (i + 1) l) (place_if (begins_test s r) (i + suc (length l)) []))

length_more : (b : Bool) (i : ℕ) (l : List ℕ) → length (l ++ place_if b i []) ≡ one_more_if b (length l)
length_more true i l = rw length-append (omega arith)
length_more false i l = rw length-append (omega arith)

-- the records that begin among the first i tokens are counted, and the index has their places
pub record Placing (roles counts index : List ℕ) (i : ℕ) : Type 0 where
  pub long : length index ≡ RECORDS
  pub counted : (s : Section) → get_or counts (entry_of s) 0 ≡ length (places_from s 0 (take i roles))
  pub placed : (s : Section) (k : ℕ) → k < length (places_from s 0 (take i roles)) → get_or index (index_of s + k) 0 ≡ get_or (places_from s 0 (take i roles)) k 0

pub placing : (roles index : List ℕ) → length index ≡ RECORDS → Placing roles (replicate 6 0) index 0
unfolding places_from
placing roles index l = record { long = l; counted = λ s. zeros SECTIONS (entry_of s); placed = λ s k h. absurd (omega arith) }

-- token i, of a role that begins a record of the section of entry e, or of none
module _
    (roles counts index : List ℕ) (i e : ℕ) (p : Placing roles counts index i) (h : i < length roles) (l : e ≤ SECTIONS)
    (ways : (s : Section) → begins_test s (get_or roles i 0) ≡ eqb e (entry_of s)) (six : length counts ≡ SECTIONS)
    (fit : (s : Section) → get_or counts (entry_of s) 0 ≤ most_of s) (f : full_test counts e ≡ false)
  where
    one_more : (s : Section) → places_from s 0 (take (i + 1) roles) ≡ places_from s 0 (take i roles) ++ place_if (eqb e (entry_of s)) i []
    one_more s =
        let z : 0 + length (take i roles) ≡ i = omega (arith, length-take-le i roles (omega arith)) in
        rw (add-one i, take-suc roles i 0 h, places_append s 0 (take i roles) (get_or roles i 0), z, ways s)

    kept : (s : Section) (k : ℕ) → k < length (places_from s 0 (take i roles)) → (index_of s + k ≡ index_start e + get_or counts e 0 → ⊥)
        → get_or (set index (index_start e + get_or counts e 0) i) (index_of s + k) 0 ≡ get_or (places_from s 0 (take i roles)) k 0
    kept s k m ne = get_or-set_other index (index_start e + get_or counts e 0) (index_of s + k) i 0 ne ∙ p.placed s k m

    at_places : (s : Section) (k : ℕ) (b : Bool) → eqb e (entry_of s) ≡ b → k < length (places_from s 0 (take i roles) ++ place_if b i [])
        → get_or (set index (index_start e + get_or counts e 0) i) (index_of s + k) 0 ≡ get_or (places_from s 0 (take i roles) ++ place_if b i []) k 0
    at_places s k true q m =
        let set_at : index_start e + get_or counts e 0 ≡ index_of s + length (places_from s 0 (take i roles)) =
        rw (eqb-true e (entry_of s) q, start_is s, p.counted s) in
        ⊎_elim
        (λ (old : k < length (places_from s 0 (take i roles))).
        kept s k old (λ z. omega arith) ∙ sym (get_or-append (places_from s 0 (take i roles)) (i ∷ []) 0 k old))
        (λ (new : length (places_from s 0 (take i roles)) ≤ k).
        let last : length (places_from s 0 (take i roles)) ≡ k = omega (arith, rw (length_more true i (places_from s 0 (take i roles))) at m) in
        let below : index_start e + get_or counts e 0 < length index =
        omega (arith, place_below counts e (omega (arith, eqb-true e (entry_of s) q, entry_below s)) f, p.long) in
        let here : index_of s + k ≡ index_start e + get_or counts e 0 = omega arith in
        rw (here, get_or-set_same index (index_start e + get_or counts e 0) i 0 below) (sym (get_or_at (places_from s 0 (take i roles)) i [] 0 k last)))
        (lt_or_le k (length (places_from s 0 (take i roles))))
    at_places s k false q m =
        let old : k < length (places_from s 0 (take i roles)) = rw (length_more false i (places_from s 0 (take i roles))) at m in
        kept s k old (apart s e (get_or counts e 0) k l (λ z. room counts e z f) (eqb-false e (entry_of s) q) (omega (arith, p.counted s, fit s)))
        ∙ sym (get_or-append (places_from s 0 (take i roles)) [] 0 k old)

    pub placing_next : Placing roles (set counts e (get_or counts e 0 + 1)) (set index (index_start e + get_or counts e 0) i) (i + 1)
    placing_next =
        record {
          long = length-set index (index_start e + get_or counts e 0) i ∙ p.long;
          counted = λ s.
              one_counted counts e s six
              ∙ rw (p.counted s, one_more s) (sym (length_more (eqb e (entry_of s)) i (places_from s 0 (take i roles))));
          placed = λ s. rw (one_more s) (λ k m. at_places s k (eqb e (entry_of s)) refl m);
        }
