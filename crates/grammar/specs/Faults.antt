-- Errors 35 and 36: which tokens of a derivation are at fault.
use Rattle.std.specs.Prelude.{ℕ, ◌+◌, ◌%◌, Bool, true, false, not, ◌&&◌, ◌||◌, List, [], ◌∷◌, ◌++◌, eqb, leb, pos, length}
use Rattle.std.proofs.Math.Option.{Option, none, some}
use Rattle.words.specs.Integer.{range_test}
use Rattle.script.specs.declared.Section.{Section}
use Rattle.script.specs.declared.Section.TheVariants.{Interfaces as interfaces, Signatures as signatures, Classes as classes}
use Rattle.script.specs.declared.Section.TheVariants.{Fields as fields, Methods as methods, Nodes as nodes}
use Rattle.script.specs.Section.{sections, most_of}
use Rattle.grammar.specs.Tokens.{Spelling, Lexeme, same_spelling, decimal}
use Rattle.grammar.specs.Grammar.{Derivation, spelled_text}
use Rattle.grammar.specs.Roles.{R_INTERFACE, R_CLASS, R_METHOD, R_SIGNATURE, R_FIELD, R_DECLARED, R_TYPE, R_NULL}
use Rattle.grammar.specs.Roles.{R_INTEGER, R_NEGATIVE, BINDING, roles_text}
use Rattle.grammar.specs.Files.{spelling_of, negated}

-- A token of a derivation with its role.
pub record Marked : Type 0 where
  pub role : ℕ
  pub marks : Lexeme

unfoldable pub marked_by : List ℕ → List Lexeme → List Marked
marked_by [] ts = []
marked_by (r ∷ rs) [] = []
marked_by (r ∷ rs) (t ∷ ts) = record { role = r; marks = t } ∷ marked_by rs ts

abbrev pub marked_text : Derivation → List Marked
marked_text d = marked_by (roles_text d) (spelled_text d)

abbrev pub first_if : Bool → ℕ → Option ℕ → Option ℕ
first_if true i o = some i
first_if false i o = o

-- "the first faulty token": the first of a list whose test, with what is before it and what is behind it, says yes; the first i are before.
unfoldable pub first_fault : (List Marked → Marked → List Marked → Bool) → List Marked → List Marked → Option ℕ
first_fault test before [] = none
first_fault test before (m ∷ after) = first_if (test before m after) (length before) (first_fault test (before ++ (m ∷ [])) after)

-- 35: "a type name is declared nowhere or again".
unfoldable pub declared_among : Spelling → List Marked → Bool
declared_among y [] = false
declared_among y (m ∷ l) = (eqb m.role R_DECLARED && same_spelling (spelling_of m.marks) y) || declared_among y l

abbrev pub again_test : List Marked → Marked → Bool
again_test before m = eqb m.role R_DECLARED && declared_among (spelling_of m.marks) before

abbrev pub nowhere_test : List Marked → Marked → Bool
nowhere_test text m = eqb m.role R_TYPE && not (declared_among (spelling_of m.marks) text)

unfoldable pub declaration_fault : List Marked → Option ℕ
declaration_fault text = first_fault (λ before m after. again_test before m || nowhere_test text m) [] text

-- 36: "a table limit or the range of Int is passed". The first token of a record of each section.
abbrev pub begins_test : Section → ℕ → Bool
begins_test interfaces r = eqb r R_INTERFACE
begins_test signatures r = eqb r R_SIGNATURE
begins_test classes r = eqb r R_CLASS
begins_test fields r = eqb r R_FIELD
begins_test methods r = eqb r R_METHOD
begins_test nodes r = leb R_NULL (r % BINDING)

abbrev pub one_more_if : Bool → ℕ → ℕ
one_more_if true n = n + 1
one_more_if false n = n

-- How many records of a section begin in a list.
unfoldable pub begun_in : Section → List Marked → ℕ
begun_in k [] = 0
begun_in k (m ∷ l) = one_more_if (begins_test k m.role) (begun_in k l)

-- "for a record too many in text order": is it one, of one of these sections?
unfoldable pub too_many_test : List Section → List Marked → Marked → Bool
too_many_test [] before m = false
too_many_test (k ∷ ks) before m = (begins_test k m.role && leb (most_of k) (begun_in k before)) || too_many_test ks before m

abbrev pub head_spelling : List Marked → Spelling
head_spelling [] = []
head_spelling (m ∷ l) = spelling_of m.marks

-- "or an integer its first token": its digits, or its minus with the digits behind it.
abbrev pub outside_test : Marked → List Marked → Bool
outside_test m after =
    (eqb m.role R_INTEGER && not (range_test (pos (decimal (spelling_of m.marks)))))
    || (eqb m.role R_NEGATIVE && not (range_test (negated (decimal (head_spelling after)))))

unfoldable pub limit_fault : List Marked → Option ℕ
limit_fault text = first_fault (λ before m after. too_many_test sections before m || outside_test m after) [] text
