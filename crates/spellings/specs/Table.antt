-- Tables of names. Entry e of a table has the offset of a name's first appearance, and a link to an older entry of the same hash.
use Rattle.std.specs.Prelude.{ℕ, suc, ◌<◌, ◌≤◌, ◌≡◌, Bool, true, false, List, [], ◌∷◌, length, get_or, drop, replicate, Option, None, Some}
use Rattle.words.specs.Word.{WORD}
use Rattle.grammar.specs.Tokens.{Spelling, same_spelling}
use Rattle.grammar.specs.Files.{rank_in}
use Rattle.tokens.specs.Runs.{word_from, spelling_hash, HASHES}
use Rattle.spellings.specs.declared.table.NameTable.{NameTable}

-- The name at an offset of a text.
abbrev pub name_from : List ℕ → ℕ → Spelling
name_from text at = word_from (drop at text)

-- From an entry and 1 more, or from 0 for none, the links lead to entry e.
pub data Leads (links : List ℕ) : ℕ → ℕ → Type 0 where
  leads_here : {e : ℕ} → Leads links (suc e) e
  leads_on : {k e : ℕ} → Leads links (get_or links k 0) e → Leads links (suc k) e

-- A table holds a list of names, none of them twice: entry e is of name e, links fall, and the head of a hash leads to each entry of that hash.
pub record TableHolds (text firsts links heads : List ℕ) (names : List Spelling) : Type 0 where
  pub hashes : length heads ≡ HASHES
  pub few : length names ≤ WORD
  pub in_firsts : length names ≤ length firsts
  pub in_links : length names ≤ length links
  pub inside : (e : ℕ) → e < length names → get_or firsts e 0 ≤ length text
  pub spelled : (e : ℕ) → e < length names → name_from text (get_or firsts e 0) ≡ get_or names e []
  pub once : (e : ℕ) → e < length names → rank_in names (get_or names e []) ≡ e
  pub falls : (e : ℕ) → e < length names → get_or links e 0 ≤ e
  pub begun : (h : ℕ) → get_or heads h 0 ≤ length names
  pub leads : (e : ℕ) → e < length names → Leads links (get_or heads (spelling_hash (get_or names e [])) 0) e

-- The same of a table's arrays.
abbrev pub Holds : {N : ℕ} → List ℕ → NameTable N → List Spelling → Type 0
Holds text t names = TableHolds text t.firsts t.links t.heads names

-- A table with so many entries as it counts holds a list.
pub record TableFilled {N : ℕ} (text : List ℕ) (t : NameTable N) : Type 0 where
  pub names : List Spelling
  pub holds : Holds text t names
  pub counted : length names ≡ t.count

-- Nothing is in a table.
abbrev pub IsEmpty : {N : ℕ} → NameTable N → Type 0
IsEmpty t = (t.heads ≡ replicate HASHES 0) × (t.count ≡ 0)

abbrev pub chosen_names : Bool → List Spelling → List Spelling → List Spelling
chosen_names true l m = l
chosen_names false l m = m

-- A list with a name behind it, unless the name is there.
unfoldable pub grown : List Spelling → Spelling → List Spelling
grown [] y = y ∷ []
grown (z ∷ l) y = z ∷ chosen_names (same_spelling z y) l (grown l y)

-- What holds of whatever list the table holds.
abbrev pub OfNames : {N : ℕ} → List ℕ → NameTable N → (List Spelling → Type 0) → Type 0
OfNames text t P = (names : List Spelling) → Holds text t names → length names ≡ t.count → P names

-- A name's place in that list.
abbrev pub PlaceIs : {N : ℕ} → List ℕ → NameTable N → Spelling → ℕ → Type 0
PlaceIs text t y r = OfNames text t (λ names. r ≡ rank_in names y)

-- The place of a name among so many, or none if it is not there.
abbrev pub PlaceAmong : ℕ → ℕ → Option ℕ → Type 0
PlaceAmong count place None = place ≡ count
PlaceAmong count place (Some e) = (e ≡ place) × (e < count)

-- What a search for a name answers: its place in that list, if it is there.
abbrev pub EntryIs : {N : ℕ} → List ℕ → NameTable N → Spelling → Option ℕ → Type 0
EntryIs text t y r = OfNames text t (λ names. PlaceAmong t.count (rank_in names y) r)

-- A name has been put behind that list, unless it was there.
abbrev pub Grows : {N : ℕ} → List ℕ → NameTable N → Spelling → NameTable N → Type 0
Grows text t y t' = OfNames text t (λ names. Holds text t' (grown names y))

-- And the table counts it.
abbrev pub CountGrows : {N : ℕ} → List ℕ → NameTable N → Spelling → NameTable N → Type 0
CountGrows text t y t' = OfNames text t (λ names. length (grown names y) ≡ t'.count)
