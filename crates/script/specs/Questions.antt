-- Questions 1 to 8 as computed answers: "layout and limits".
use Rattle.std.specs.Prelude.{ℕ, zero, suc, ◌+◌, ◌-◌, Bool, true, false, cond, not, ◌&&◌, ◌||◌, List, [], ◌∷◌, ◌++◌, eqb, leb, ltb, length}
use Rattle.limits.specs.Limits.{CONTENTS, FILE, CLASS_FIELDS}
use Rattle.script.specs.declared.Question.TheVariants.{Length, Counts, Places, Interfaces, Owners, Types, Nodes, Names}
use Rattle.script.specs.declared.Role.{Role}
use Rattle.script.specs.declared.Role.TheVariants.{Unused, Variable, Member, Bound, NewClass, CastType, Expression, Constant, Unknown}
use Rattle.script.specs.Lists.{run, sum_below, count_in}
use Rattle.script.specs.Section.{Section, interfaces, signatures, classes, fields, methods, nodes, sections, most_of, body_at, count_of, end_of}
use Rattle.script.specs.Section.{record_word, node_word}
use Rattle.script.specs.Syntax.{Point, parts}
use Rattle.script.specs.Reading.{shape_at, view_at, own_signatures, own_fields, own_methods}
use Rattle.script.specs.Asking.{Asked, at_zero, lowest_in}

-- Do all elements of a list pass a test?
unfoldable pub all_of : {A : Type 0} → (A → Bool) → List A → Bool
all_of test [] = true
all_of test (x ∷ l) = test x && all_of test l

-- 1. "Is the file 24 to 13,592 bytes?"
unfoldable pub length_test : List ℕ → Bool
length_test s = leb CONTENTS (length s) && leb (length s) FILE

-- 2. "Are counts within the table, and is there a node?"
unfoldable pub within_test : List ℕ → List Section → Bool
within_test s [] = true
within_test s (k ∷ ks) = leb (count_of s k) (most_of k) && within_test s ks

unfoldable pub counts_test : List ℕ → Bool
counts_test s = within_test s sections && ltb 0 (count_of s nodes)

-- 3. "Are the bodies where the contents must place them, the last ending with the file?"
unfoldable pub placed_from : List ℕ → ℕ → List Section → Bool
placed_from s at [] = eqb at (length s)
placed_from s at (k ∷ ks) = eqb (body_at s k) at && placed_from s (end_of s k) ks

unfoldable pub places_test : List ℕ → Bool
places_test s = placed_from s CONTENTS sections

-- 4. "Is each interface record of form 0 or 1, with 0 or earlier parents as above?" The earlier interfaces of record i have types 1 to i.
abbrev pub earlier_test : ℕ → ℕ → Bool
earlier_test i t = ltb 0 t && leb t i

unfoldable pub interface_test : List ℕ → ℕ → Bool
interface_test s i =
    (eqb (record_word s interfaces i 0) 0 && eqb (record_word s interfaces i 2) 0)
    || (eqb (record_word s interfaces i 0) 1 && (earlier_test i (record_word s interfaces i 1) && earlier_test i (record_word s interfaces i 2)))

unfoldable pub interfaces_test : List ℕ → List (Section × (ℕ → Bool))
interfaces_test s = (interfaces, interface_test s) ∷ []

-- 5. "Do owners' counts add up to each section's count?"
unfoldable pub owners_test : List ℕ → Bool
owners_test s =
    eqb (sum_below (own_signatures s) (count_of s interfaces)) (count_of s signatures)
    && (eqb (sum_below (own_fields s) (count_of s classes)) (count_of s fields)
    && eqb (sum_below (own_methods s) (count_of s classes)) (count_of s methods))

-- 6. "Is every type word a type, a class's interface an interface, a `new` operand a class?"
unfoldable pub type_test : List ℕ → ℕ → Bool
type_test s t = leb t (suc (count_of s interfaces + count_of s classes))

unfoldable pub interface_type_test : List ℕ → ℕ → Bool
interface_type_test s t = ltb 0 t && leb t (count_of s interfaces)

unfoldable pub class_type_test : List ℕ → ℕ → Bool
class_type_test s t = ltb (count_of s interfaces) t && leb t (count_of s interfaces + count_of s classes)

-- Of a node's word, by its role.
abbrev pub type_word_test : List ℕ → Role → ℕ → Bool
type_word_test s Unused w = true
type_word_test s Variable w = true
type_word_test s Member w = true
type_word_test s Bound w = true
type_word_test s NewClass w = class_type_test s w
type_word_test s CastType w = type_test s w
type_word_test s Expression w = true
type_word_test s Constant w = true
type_word_test s Unknown w = true

-- Do the words a, b and c of a node pass a test by their roles?
abbrev pub words_test : List ℕ → (Role → ℕ → Bool) → Point → Bool
words_test s test n =
    test (shape_at s n).0 (node_word s n 1) && (test (shape_at s n).1 (node_word s n 2) && test (shape_at s n).2 (node_word s n 3))

abbrev pub two_types_test : List ℕ → Section → ℕ → Bool
two_types_test s k i = type_test s (record_word s k i 1) && type_test s (record_word s k i 2)

unfoldable pub types_test : List ℕ → List (Section × (ℕ → Bool))
types_test s =
    (signatures, two_types_test s signatures) ∷
    (classes, λ i. interface_type_test s (record_word s classes i 0)) ∷
    (fields, λ i. type_test s (record_word s fields i 1)) ∷
    (methods, two_types_test s methods) ∷
    (nodes, words_test s (type_word_test s)) ∷
    []

-- 7. "Has each node a known kind, unused words 0, a let variable of 2 or more, parts with larger numbers that exist, and is each node used once, as a part or
-- body, except node 0, never used? (A missing body is the method's fault, any other misuse the node's.)"
abbrev pub part_test : List ℕ → Point → Point → Bool
part_test s n p = ltb n p && ltb p (count_of s nodes)

abbrev pub word_test : List ℕ → Point → Role → ℕ → Bool
word_test s n Unused w = eqb w 0
word_test s n Variable w = true
word_test s n Member w = true
word_test s n Bound w = leb 2 w
word_test s n NewClass w = true
word_test s n CastType w = true
word_test s n Expression w = part_test s n w
word_test s n Constant w = true
word_test s n Unknown w = false

-- Every use of a node: the body words of the methods, and the parts of the k nodes from n on.
unfoldable pub parts_from : List ℕ → Point → ℕ → List Point
parts_from s n zero = []
parts_from s n (suc k) = parts (view_at s n) ++ parts_from s (n + 1) k

unfoldable pub uses_in : List ℕ → List Point
uses_in s = run (λ i. record_word s methods i 3) 0 (count_of s methods) ++ parts_from s 0 (count_of s nodes)

-- How often a node is to be used.
abbrev pub due_uses : Point → ℕ
due_uses zero = 0
due_uses (suc n) = 1

unfoldable pub node_test : List ℕ → Point → Bool
node_test s n = words_test s (word_test s n) n && eqb (count_in n (uses_in s)) (due_uses n)

unfoldable pub nodes_test : List ℕ → List (Section × (ℕ → Bool))
nodes_test s = (methods, λ i. ltb (record_word s methods i 3) (count_of s nodes)) ∷ (nodes, node_test s) ∷ []

-- 8. "Are names unique in each list, each class's fields and each class's methods (the later record is at fault), and has each class at most 8 fields?"
-- Where the run begins that record i is in, the runs of the first n owners being this long.
unfoldable pub run_start : (ℕ → ℕ) → ℕ → ℕ → ℕ
run_start own zero i = 0
run_start own (suc n) i = let r = run_start own n i in cond (leb (sum_below own n) i) (sum_below own n) r

-- Has one of the k records from j on the name x?
unfoldable pub has_name : (ℕ → ℕ) → ℕ → ℕ → ℕ → Bool
has_name name x j zero = false
has_name name x j (suc k) = let r = has_name name x (j + 1) k in eqb (name j) x || r

-- Has no earlier record of the run that record i is in the name of record i?
unfoldable pub fresh_test : (ℕ → ℕ) → (ℕ → ℕ) → ℕ → ℕ → Bool
fresh_test name own n i = let start = run_start own n i in not (has_name name (name i) start (i - start))

unfoldable pub names_test : List ℕ → List (Section × (ℕ → Bool))
names_test s =
    (signatures, fresh_test (λ j. record_word s signatures j 0) (own_signatures s) (count_of s interfaces)) ∷
    (classes, λ i. leb (own_fields s i) CLASS_FIELDS) ∷
    (fields, fresh_test (λ j. record_word s fields j 0) (own_fields s) (count_of s classes)) ∷
    (methods, fresh_test (λ j. record_word s methods j 0) (own_methods s) (count_of s classes)) ∷
    []

-- Questions 1 to 8, in order.
unfoldable pub layout_questions : List ℕ → List Asked
layout_questions s =
    record { question = Length; no_at = at_zero (length_test s) } ∷
    record { question = Counts; no_at = at_zero (counts_test s) } ∷
    record { question = Places; no_at = at_zero (places_test s) } ∷
    record { question = Interfaces; no_at = lowest_in s (interfaces_test s) } ∷
    record { question = Owners; no_at = at_zero (owners_test s) } ∷
    record { question = Types; no_at = lowest_in s (types_test s) } ∷
    record { question = Nodes; no_at = lowest_in s (nodes_test s) } ∷
    record { question = Names; no_at = lowest_in s (names_test s) } ∷
    []
