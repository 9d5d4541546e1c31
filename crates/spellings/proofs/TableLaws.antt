-- What the code of a table relies on.
use Prim.Native.Nat.{ℕ, suc, ◌+◌, ◌-◌, ◌<◌, ◌≤◌}
use mathlib.Core.Path.{◌≡◌, refl, sym, ap, ◌∙◌}
use Rattle.std.specs.Prelude.{Some, None}
use mathlib.Core.Bool.{Bool, true, false}
use mathlib.Core.List.{List, [], ◌∷◌, ◌++◌}
use mathlib.Core.Logic.{⊎_elim}
use native.Mathlib.Omega.{arith}
use native.Mathlib.Decide.{ℕ_discrete}
use borrow.Author.Count.{below_more}
use lib.ListN.{length, get_or, set, replicate, length-append, length-set, length-replicate, get_or-append}
use lib.Seq.{get_or-set_same, get_or-set_other, get_or-append_seam}
use Rattle.words.specs.Word.{WORD}
use Rattle.script.proofs.Lists.{zeros, lt_or_le}
use Rattle.grammar.specs.Tokens.{Spelling, same_spelling}
use Rattle.grammar.specs.Files.{rank_in}
use Rattle.tokens.specs.Runs.{spelling_hash, HASHES}
use Rattle.spellings.specs.declared.table.NameTable.{NameTable}
use Rattle.spellings.specs.Table.{name_from, Leads, leads_here, leads_on, TableHolds, Holds, TableFilled, IsEmpty, OfNames, PlaceIs, EntryIs, Grows, CountGrows}
use Rattle.spellings.proofs.Places.{same_is, not_same, place_le, at_place, place_before, place_behind, grown_not, grown_by}

-- Cleared heads hold no name.
pub holds_none : (text firsts links heads : List ℕ) → heads ≡ replicate HASHES 0 → TableHolds text firsts links heads []
holds_none text firsts links heads z =
    record {
      hashes = ap length z ∙ length-replicate {A = ℕ} HASHES 0;
      few = omega arith;
      in_firsts = omega arith;
      in_links = omega arith;
      inside = λ e h. absurd (omega arith);
      spelled = λ e h. absurd (omega arith);
      once = λ e h. absurd (omega arith);
      falls = λ e h. absurd (omega arith);
      begun = λ h. omega (arith, ap (λ (s : List ℕ). get_or s h 0) z ∙ zeros HASHES h);
      leads = λ e h. absurd (omega arith);
    }

-- The same of a table.
pub none_held : {N : ℕ} (text : List ℕ) (t : NameTable N) → IsEmpty t → Holds text t []
none_held text t e = holds_none text t.firsts t.links t.heads e.0

-- What the loop of a search keeps: from here on the links lead to whatever entry has the name.
pub record Looking {N : ℕ} (text : List ℕ) (t : NameTable N) (y : Spelling) (next : ℕ) : Type 0 where
  pub few : next ≤ t.count
  pub leads_to : OfNames text t (λ names. (e : ℕ) → e < t.count → get_or names e [] ≡ y → Leads t.links next e)

no_lead : {links : List ℕ} {e : ℕ} (v : ℕ) → v ≡ 0 → Leads links v e → ⊥
no_lead v z leads_here = omega arith
no_lead v z (leads_on t) = omega arith

-- One link further: the entry, or what its link leads to.
past : {links : List ℕ} {v d : ℕ} (e : ℕ) → v ≡ suc e → (e ≡ d → ⊥) → Leads links v d → Leads links (get_or links e 0) d
past e q n leads_here = absurd (n (omega arith))
past {links} {v} {d} e q n (leads_on {k = k} t) = let p : k ≡ e = omega arith in rw p at t

module _ {N : ℕ} (text : List ℕ) (t : NameTable N) (y : Spelling) where
  pub look_start : (hash v : ℕ) → TableFilled text t → hash ≡ spelling_hash y → v ≡ get_or t.heads hash 0 → Looking text t y v
  look_start hash v h p q =
      record {
        few = omega (arith, q, h.holds.begun hash, h.counted);
        leads_to = λ names k l e b s. let w : Leads t.links (get_or t.heads (spelling_hash (get_or names e [])) 0) e = k.leads e (omega arith) in rw (q, p) (rw s at w);
      }

  pub look_hit :
      (v o : ℕ) (same : Bool)
      → Looking text t y v
      → 0 < v
      → o ≡ get_or t.firsts (v - 1) 0
      → same ≡ same_spelling (name_from text o) y
      → same ≡ true
      → EntryIs text t y (Some (v - 1))
  look_hit v o same w p i q s names k l =
      let b : v - 1 < length names = omega (arith, w.few) in
      let z : get_or names (v - 1) [] ≡ y = sym (k.spelled (v - 1) b) ∙ same_is _ _ (rw i at (sym q ∙ s)) in
      (sym (rw z at (k.once (v - 1) b)), omega arith)

  pub look_on :
      (v u o : ℕ) (same : Bool)
      → TableFilled text t
      → Looking text t y v
      → 0 < v
      → o ≡ get_or t.firsts (v - 1) 0
      → same ≡ same_spelling (name_from text o) y
      → same ≡ false
      → u ≡ get_or t.links (v - 1) 0
      → Looking text t y u
  look_on v u o same h w p i r s q =
      record {
        few = omega (arith, q, h.holds.falls (v - 1) (omega (arith, w.few, h.counted)), w.few);
        leads_to =
            λ names k l e b z.
            let other : v - 1 ≡ e → ⊥ = λ j. not_same _ _ (rw i at (sym r ∙ s)) (k.spelled (v - 1) (omega (arith, w.few)) ∙ (ap (λ (a : ℕ). get_or names a []) j ∙ z)) in
            rw q (past (v - 1) (omega arith) other (w.leads_to names k l e b z));
      }

  pub look_end : (v : ℕ) → Looking text t y v → v ≤ 0 → EntryIs text t y None
  look_end v w z names k l =
      ⊎_elim
      (λ (b : rank_in names y < length names). absurd (no_lead v (omega arith) (w.leads_to names k l (rank_in names y) (omega arith) (at_place names y b))))
      (λ (b : length names ≤ rank_in names y). omega (arith, place_le names y))
      (lt_or_le (rank_in names y) (length names))

-- A link that is set at a new entry leaves the ways between older ones.
leads_still : {links : List ℕ} (n v w : ℕ) {e : ℕ} → ((k : ℕ) → k < n → get_or links k 0 ≤ k) → w ≤ n → Leads links w e → Leads (set links n v) w e
leads_still n v w f b leads_here = leads_here
leads_still {links} n v w {e} f b (leads_on {k = k} t) =
    let o : k ≡ n → ⊥ = λ q. omega arith in
    leads_on {k = k} {e = e} (rw (get_or-set_other links n k v 0 o) (leads_still n v (get_or links k 0) f (omega (arith, f k (omega arith))) t))

-- A name that is not there is put behind the others.
module _ (text firsts links heads : List ℕ) (names : List Spelling) (at hash : ℕ) (y : Spelling)
    (held : TableHolds text firsts links heads names) (name : name_from text at ≡ y) (new : rank_in names y ≡ length names)
    (room : length names < length firsts) (link-room : length names < length links) (small : length names < WORD) (stands : at ≤ length text)
    (hashed : hash ≡ spelling_hash y) (bounded : hash < HASHES) where
  abbrev firsts' : List ℕ
  firsts' = set firsts (length names) at

  abbrev links' : List ℕ
  links' = set links (length names) (get_or heads hash 0)

  abbrev heads' : List ℕ
  heads' = set heads hash (length names + 1)

  one_longer : length (names ++ (y ∷ [])) ≡ length names + 1
  one_longer = length-append names (y ∷ [])

  old_name : (e : ℕ) → e < length names → get_or (names ++ (y ∷ [])) e [] ≡ get_or names e []
  old_name e h = get_or-append names (y ∷ []) [] e h

  new_name : get_or (names ++ (y ∷ [])) (length names) [] ≡ y
  new_name = get_or-append_seam names y [] []

  old_first : (e : ℕ) → e < length names → get_or firsts' e 0 ≡ get_or firsts e 0
  old_first e h = get_or-set_other firsts (length names) e at 0 (λ q. omega arith)

  new_first : get_or firsts' (length names) 0 ≡ at
  new_first = get_or-set_same firsts (length names) at 0 room

  old_link : (e : ℕ) → e < length names → get_or links' e 0 ≡ get_or links e 0
  old_link e h = get_or-set_other links (length names) e (get_or heads hash 0) 0 (λ q. omega arith)

  new_link : get_or links' (length names) 0 ≡ get_or heads hash 0
  new_link = get_or-set_same links (length names) (get_or heads hash 0) 0 link-room

  new_head : get_or heads' hash 0 ≡ suc (length names)
  new_head = get_or-set_same heads hash (length names + 1) 0 (omega (arith, held.hashes)) ∙ omega arith

  old_head : (h : ℕ) → (h ≡ hash → ⊥) → get_or heads' h 0 ≡ get_or heads h 0
  old_head h d = get_or-set_other heads hash h (length names + 1) 0 d

  -- what holds of the older entries, and of the new one
  each : (P : ℕ → Type 0) → ((e : ℕ) → e < length names → P e) → P (length names) → (e : ℕ) → e < length (names ++ (y ∷ [])) → P e
  each P f g e h = below_more P (length names) f g e (omega (arith, one_longer))

  old_leads : (h e : ℕ) → Leads links (get_or heads h 0) e → Leads links' (get_or heads' h 0) e
  old_leads h e t =
      let s : Leads links' (get_or heads h 0) e = leads_still (length names) (get_or heads hash 0) (get_or heads h 0) held.falls (held.begun h) t in
      elim (ℕ_discrete h hash) [ yes q ↦ rw (q, new_head) (leads_on {k = length names} {e = e} (rw new_link (rw q at s))) | no q ↦ rw (old_head h q) s ]

  pub holds_more : TableHolds text firsts' links' heads' (names ++ (y ∷ []))
  holds_more =
      record {
        hashes = length-set heads hash (length names + 1) ∙ held.hashes;
        few = omega (arith, one_longer);
        in_firsts = omega (arith, one_longer, length-set firsts (length names) at);
        in_links = omega (arith, one_longer, length-set links (length names) (get_or heads hash 0));
        inside = each (λ e. get_or firsts' e 0 ≤ length text) (λ e h. rw (old_first e h) (held.inside e h)) (rw new_first stands);
        spelled =
            each (λ e. name_from text (get_or firsts' e 0) ≡ get_or (names ++ (y ∷ [])) e [])
            (λ e h. rw (old_first e h, old_name e h) (held.spelled e h))
            (rw (new_first, new_name) name);
        once =
            each (λ e. rank_in (names ++ (y ∷ [])) (get_or (names ++ (y ∷ [])) e []) ≡ e)
            (λ e h. let q = held.once e h in rw (old_name e h) (place_before names (y ∷ []) (get_or names e []) (omega arith) ∙ q))
            (rw new_name (place_behind names [] y new));
        falls = each (λ e. get_or links' e 0 ≤ e) (λ e h. rw (old_link e h) (held.falls e h)) (rw new_link (held.begun hash));
        begun =
            λ h.
            elim (ℕ_discrete h hash) [
              | yes q ↦ rw (q, new_head) (omega (arith, one_longer))
              | no q ↦ rw (old_head h q) (omega (arith, one_longer, held.begun h))
            ];
        leads =
            each (λ e. Leads links' (get_or heads' (spelling_hash (get_or (names ++ (y ∷ [])) e [])) 0) e)
            (λ e h. rw (old_name e h) (old_leads (spelling_hash (get_or names e [])) e (held.leads e h)))
            (rw (new_name, ← hashed, new_head) leads_here);
      }

-- What `enter` answers: a name that is there, and one that is put there.
module _ {N : ℕ} (text : List ℕ) (t : NameTable N) (y : Spelling) where
  pub known_place : (e : ℕ) → EntryIs text t y (Some e) → PlaceIs text t y e
  known_place e found names h l = (found names h l).0

  pub known_grows : (e : ℕ) → EntryIs text t y (Some e) → Grows text t y t
  known_grows e found names h l = rw (grown_not names y (let f = found names h l in omega (arith, f.0, f.1))) h

  pub known_count : (e : ℕ) → EntryIs text t y (Some e) → CountGrows text t y t
  known_count e found names h l = rw (grown_not names y (let f = found names h l in omega (arith, f.0, f.1))) l

  pub new_place : EntryIs text t y None → PlaceIs text t y t.count
  new_place found names h l = sym (found names h l)

  pub new_count : (t' : NameTable N) → EntryIs text t y None → t'.count ≡ t.count + 1 → CountGrows text t y t'
  new_count t' found c names h l = rw (grown_by names y (found names h l ∙ sym l), length-append names (y ∷ []), l, c) refl

  pub new_grows :
      (at hash : ℕ) (t' : NameTable N)
      → EntryIs text t y None
      → name_from text at ≡ y
      → t.count < N
      → at ≤ length text
      → hash ≡ spelling_hash y
      → hash < HASHES
      → t'.firsts ≡ set t.firsts t.count at
      → t'.links ≡ set t.links t.count (get_or t.heads hash 0)
      → t'.heads ≡ set t.heads hash (t.count + 1)
      → Grows text t y t'
  new_grows at hash t' found n f i j u p q z names h l =
      let new : rank_in names y ≡ length names = found names h l ∙ sym l in
      rw (grown_by names y new, p, q, z, ← l)
      (holds_more text t.firsts t.links t.heads names at hash y h n new (omega (arith, t.room.0)) (omega (arith, t.room.1)) (omega (arith, t.small)) i j u)
