-- Where records begin: for each section the tokens at which one does, in the order of the text, and an index that has those of all sections.
use Rattle.std.specs.Prelude.{ℕ, ◌+◌, ◌<◌, ◌≡◌, Bool, true, false, List, [], ◌∷◌, length, get_or, take}
use Rattle.limits.specs.Limits.{INTERFACES, SIGNATURES, CLASSES, FIELDS, METHODS, NODES}
use Rattle.script.specs.declared.Section.{Section}
use Rattle.script.specs.declared.Section.TheVariants.{Interfaces as interfaces, Signatures as signatures, Classes as classes}
use Rattle.script.specs.declared.Section.TheVariants.{Fields as fields, Methods as methods, Nodes as nodes}
use Rattle.grammar.specs.Faults.{begins_test}
use Rattle.bounds.specs.Counting.{mosts}

unfoldable pub total : List ℕ → ℕ
total [] = 0
total (n ∷ l) = n + total l

abbrev pub place_if : Bool → ℕ → List ℕ → List ℕ
place_if true i ps = i ∷ ps
place_if false i ps = ps

-- The tokens at which records of a section begin, where token i has the first of these roles.
unfoldable pub places_from : Section → ℕ → List ℕ → List ℕ
places_from s i [] = []
places_from s i (r ∷ roles) = place_if (begins_test s r) i (places_from s (i + 1) roles)

-- Where the places of a section begin in the index, and how many places it has for all sections.
abbrev pub index_of : Section → ℕ
index_of interfaces = 0
index_of signatures = INTERFACES
index_of classes = INTERFACES + SIGNATURES
index_of fields = INTERFACES + SIGNATURES + CLASSES
index_of methods = INTERFACES + SIGNATURES + CLASSES + FIELDS
index_of nodes = INTERFACES + SIGNATURES + CLASSES + FIELDS + METHODS

abbrev pub RECORDS : ℕ
RECORDS = INTERFACES + SIGNATURES + CLASSES + FIELDS + METHODS + NODES

-- The same by the section's entry: so many as the sections before it have at most.
unfoldable pub index_start : ℕ → ℕ
index_start e = total (take e mosts)

-- The index has the places of all records that begin at tokens of these roles.
pub record IndexIs (roles index : List ℕ) : Type 0 where
  pub long : length index ≡ RECORDS
  pub places : (s : Section) (k : ℕ) → k < length (places_from s 0 roles) → get_or index (index_of s + k) 0 ≡ get_or (places_from s 0 roles) k 0
