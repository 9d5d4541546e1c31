-- Questions 1 to 8 as plain statements, to be held against document 01. `Questions` computes the answers, and `proofs/` shows that they are these.
use Rattle.std.specs.Prelude.{ℕ, suc, ◌+◌, ◌<◌, ◌≤◌, ◌≡◌, List, [], ◌∷◌, length}
use Rattle.limits.specs.Limits.{CONTENTS, FILE, CLASS_FIELDS}
use Rattle.script.specs.declared.Role.{Role}
use Rattle.script.specs.declared.Role.TheVariants.{Unused, Variable, Member, Bound, NewClass, CastType, Expression, Constant, Unknown}
use Rattle.script.specs.Lists.{sum_below, count_in}
use Rattle.script.specs.Section.{Section, interfaces, signatures, classes, fields, methods, nodes, sections, most_of, body_at, count_of, end_of}
use Rattle.script.specs.Section.{record_word, node_word}
use Rattle.script.specs.Syntax.{Point}
use Rattle.script.specs.Reading.{shape_at, own_signatures, own_fields, own_methods}
use Rattle.script.specs.Asking.{Asks, Each}
use Rattle.script.specs.Questions.{uses_in}

-- 1. "Is the file 24 to 13,592 bytes?"
pub record LengthIs (s : List ℕ) : Type 0 where
  pub least : CONTENTS ≤ length s
  pub most : length s ≤ FILE

-- 2. "Are counts within the table, and is there a node?"
pub record CountsAre (s : List ℕ) : Type 0 where
  pub within : (k : Section) → count_of s k ≤ most_of k
  pub a_node : 0 < count_of s nodes

-- 3. "Are the bodies where the contents must place them, the last ending with the file?"
-- From a place on, the bodies of some sections follow each other up to the end of the file.
abbrev pub Placed : List ℕ → ℕ → List Section → Type 0
Placed s at [] = at ≡ length s
Placed s at (k ∷ ks) = (body_at s k ≡ at) × Placed s (end_of s k) ks

abbrev pub PlacesAre : List ℕ → Type 0
PlacesAre s = Placed s CONTENTS sections

-- 4. "Is each interface record of form 0 or 1, with 0 or earlier parents as above?"
-- The interface types before that of record i.
pub record Earlier (i t : ℕ) : Type 0 where
  pub first : 0 < t
  pub before : t ≤ i

pub data InterfaceIs (s : List ℕ) (i : ℕ) : Type 0 where
  a_list : record_word s interfaces i 0 ≡ 0 → record_word s interfaces i 2 ≡ 0 → InterfaceIs s i
  a_join : record_word s interfaces i 0 ≡ 1 → Earlier i (record_word s interfaces i 1) → Earlier i (record_word s interfaces i 2) → InterfaceIs s i

abbrev pub InterfacesAre : List ℕ → Asks
InterfacesAre s = (interfaces, InterfaceIs s) ∷ []

-- 5. "Do owners' counts add up to each section's count?"
pub record OwnersAre (s : List ℕ) : Type 0 where
  pub of_signatures : sum_below (own_signatures s) (count_of s interfaces) ≡ count_of s signatures
  pub of_fields : sum_below (own_fields s) (count_of s classes) ≡ count_of s fields
  pub of_methods : sum_below (own_methods s) (count_of s classes) ≡ count_of s methods

-- 6. "Is every type word a type, a class's interface an interface, a `new` operand a class?"
abbrev pub TypeWord : List ℕ → ℕ → Type 0
TypeWord s t = t ≤ suc (count_of s interfaces + count_of s classes)

pub record InterfaceWord (s : List ℕ) (t : ℕ) : Type 0 where
  pub first : 0 < t
  pub last : t ≤ count_of s interfaces

pub record ClassWord (s : List ℕ) (t : ℕ) : Type 0 where
  pub past : count_of s interfaces < t
  pub last : t ≤ count_of s interfaces + count_of s classes

-- Of a node's word, by its role.
abbrev pub TypeWordIs : List ℕ → Role → ℕ → Type 0
TypeWordIs s Unused w = Unit {0}
TypeWordIs s Variable w = Unit {0}
TypeWordIs s Member w = Unit {0}
TypeWordIs s Bound w = Unit {0}
TypeWordIs s NewClass w = ClassWord s w
TypeWordIs s CastType w = TypeWord s w
TypeWordIs s Expression w = Unit {0}
TypeWordIs s Constant w = Unit {0}
TypeWordIs s Unknown w = Unit {0}

-- The words a, b and c of a node, each by its role.
pub record Words (s : List ℕ) (Is : Role → ℕ → Type 0) (n : Point) : Type 0 where
  pub a_is : Is (shape_at s n).0 (node_word s n 1)
  pub b_is : Is (shape_at s n).1 (node_word s n 2)
  pub c_is : Is (shape_at s n).2 (node_word s n 3)

abbrev pub TypesAre : List ℕ → Asks
TypesAre s =
    (signatures, λ i. TypeWord s (record_word s signatures i 1) × TypeWord s (record_word s signatures i 2)) ∷
    (classes, λ i. InterfaceWord s (record_word s classes i 0)) ∷
    (fields, λ i. TypeWord s (record_word s fields i 1)) ∷
    (methods, λ i. TypeWord s (record_word s methods i 1) × TypeWord s (record_word s methods i 2)) ∷
    (nodes, Words s (TypeWordIs s)) ∷
    []

-- 7. "Has each node a known kind, unused words 0, a let variable of 2 or more, parts with larger numbers that exist, and is each node used once, as a part or
-- body, except node 0, never used? (A missing body is the method's fault, any other misuse the node's.)"
pub record Part (s : List ℕ) (n p : Point) : Type 0 where
  pub later : n < p
  pub there : p < count_of s nodes

abbrev pub WordIs : List ℕ → Point → Role → ℕ → Type 0
WordIs s n Unused w = w ≡ 0
WordIs s n Variable w = Unit {0}
WordIs s n Member w = Unit {0}
WordIs s n Bound w = 2 ≤ w
WordIs s n NewClass w = Unit {0}
WordIs s n CastType w = Unit {0}
WordIs s n Expression w = Part s n w
WordIs s n Constant w = Unit {0}
WordIs s n Unknown w = ⊥

pub record NodeIs (s : List ℕ) (n : Point) : Type 0 where
  pub words : Words s (WordIs s n) n
  pub start_unused : n ≡ 0 → count_in n (uses_in s) ≡ 0
  pub used_once : 0 < n → count_in n (uses_in s) ≡ 1

abbrev pub NodesAre : List ℕ → Asks
NodesAre s = (methods, λ i. record_word s methods i 3 < count_of s nodes) ∷ (nodes, NodeIs s) ∷ []

-- 8. "Are names unique in each list, each class's fields and each class's methods (the later record is at fault), and has each class at most 8 fields?"
-- Records j and i, in this order, are of one owner among the first n, the owners' runs being this long.
pub record SameOwner (own : ℕ → ℕ) (n j i : ℕ) : Type 0 where
  pub owner : ℕ
  pub among : owner < n
  pub from : sum_below own owner ≤ j
  pub before : j < i
  pub upto : i < sum_below own owner + own owner

abbrev pub Fresh : (ℕ → ℕ) → (ℕ → ℕ) → ℕ → ℕ → Type 0
Fresh name own n i = (j : ℕ) → SameOwner own n j i → name j ≡ name i → ⊥

abbrev pub NamesAre : List ℕ → Asks
NamesAre s =
    (signatures, Fresh (λ j. record_word s signatures j 0) (own_signatures s) (count_of s interfaces)) ∷
    (classes, λ i. own_fields s i ≤ CLASS_FIELDS) ∷
    (fields, Fresh (λ j. record_word s fields j 0) (own_fields s) (count_of s classes)) ∷
    (methods, Fresh (λ j. record_word s methods j 0) (own_methods s) (count_of s classes)) ∷
    []

-- A yes to questions 1 to 8: what demand 2 calls a script "within layout and limits".
pub record WithinLayout (s : List ℕ) : Type 0 where
  pub length_is : LengthIs s
  pub counts_are : CountsAre s
  pub places_are : PlacesAre s
  pub interfaces_are : Each s (InterfacesAre s)
  pub owners_are : OwnersAre s
  pub types_are : Each s (TypesAre s)
  pub nodes_are : Each s (NodesAre s)
  pub names_are : Each s (NamesAre s)
