-- Each sentence of questions 1 to 8 as an example: a table by computation over small files. `proofs/AllFiles.antt` has the theorem over it.
use Rattle.std.specs.Prelude.{ℕ, ◌+◌, ◌*◌, ◌/◌, ◌≡◌, List, [], ◌∷◌, ◌++◌, length}
use Rattle.std.proofs.Math.Option.{Option, none, some}
use Rattle.words.specs.Word.{bytes}
use Rattle.script.specs.declared.Question.{Question}
use Rattle.script.specs.declared.Question.TheVariants.{Length, Counts, Places, Interfaces, Owners, Types, Nodes, Names}
use Rattle.script.specs.declared.Refusal.{Refusal}
use Rattle.script.specs.Asking.{first_no}
use Rattle.script.specs.Questions.{layout_questions}

-- The words of a file with these bodies: interfaces, signatures, classes, fields, methods and nodes.
unfoldable pub file_of : List ℕ → List ℕ → List ℕ → List ℕ → List ℕ → List ℕ → List ℕ
file_of is ss cs fs ms ns =
    let s = 24 + 2 * length is in
    let c = s + 2 * length ss in
    let f = c + 2 * length cs in
    let m = f + 2 * length fs in
    let n = m + 2 * length ms in
    24 ∷ length is / 3 ∷ s ∷ length ss / 3 ∷ c ∷ length cs / 3 ∷ f ∷ length fs / 2 ∷ m ∷ length ms / 4 ∷ n ∷ length ns / 4
    ∷ (is ++ (ss ++ (cs ++ (fs ++ (ms ++ ns)))))

-- The words of a file, and the first no to questions 1 to 8.
pub record FileExample : Type 0 where
  pub file : List ℕ
  pub no : Option Refusal

abbrev pub passes : List ℕ → FileExample
passes ws = record { file = ws; no = none }

abbrev pub refused : Question → ℕ → List ℕ → FileExample
refused q place ws = record { file = ws; no = some (record { question = q; place = place }) }

abbrev pub FileHolds : FileExample → Type 0
FileHolds x = first_no (layout_questions (bytes x.file)) ≡ x.no

unfoldable pub file_examples : List FileExample
file_examples =
    -- an interface that lists 5(1) : 0, a join of it with itself, a class of the join with a field 7 : 4, which is Int, and a method 5(1) : 0 whose body is
    -- node 2; the start is (3)null
    passes
    (file_of (0 ∷ 1 ∷ 0 ∷ 1 ∷ 1 ∷ 1 ∷ []) (5 ∷ 1 ∷ 0 ∷ []) (2 ∷ 1 ∷ 1 ∷ []) (7 ∷ 4 ∷ []) (5 ∷ 1 ∷ 0 ∷ 2 ∷ [])
    (7 ∷ 3 ∷ 1 ∷ 0 ∷ 0 ∷ 0 ∷ 0 ∷ 0 ∷ 0 ∷ 0 ∷ 0 ∷ 0 ∷ [])) ∷
    -- "Is the file 24 to 13,592 bytes?": 22
    refused Length 0 (24 ∷ 0 ∷ 24 ∷ 0 ∷ 24 ∷ 0 ∷ 24 ∷ 0 ∷ 24 ∷ 0 ∷ 24 ∷ []) ∷
    -- "Are counts within the table, and is there a node?"
    refused Counts 0 (file_of [] [] [] [] [] []) ∷
    -- "Are the bodies where the contents must place them, the last ending with the file?": a word follows
    refused Places 0 (file_of [] [] [] [] [] (0 ∷ 0 ∷ 0 ∷ 0 ∷ []) ++ (0 ∷ [])) ∷
    -- "with 0 or earlier parents as above": interface 2 joins 1 and itself
    refused Interfaces 30 (file_of (0 ∷ 0 ∷ 0 ∷ 1 ∷ 1 ∷ 2 ∷ []) [] [] [] [] (0 ∷ 0 ∷ 0 ∷ 0 ∷ [])) ∷
    -- "Do owners' counts add up to each section's count?": a class counts one field, and there is none
    refused Owners 0 (file_of (0 ∷ 0 ∷ 0 ∷ []) [] (1 ∷ 1 ∷ 0 ∷ []) [] [] (0 ∷ 0 ∷ 0 ∷ 0 ∷ [])) ∷
    -- "a `new` operand a class": an interface, and Int
    refused Types 36 (file_of (0 ∷ 0 ∷ 0 ∷ []) [] (1 ∷ 0 ∷ 0 ∷ []) [] [] (6 ∷ 1 ∷ 0 ∷ 0 ∷ [])) ∷
    refused Types 36 (file_of (0 ∷ 0 ∷ 0 ∷ []) [] (1 ∷ 0 ∷ 0 ∷ []) [] [] (6 ∷ 3 ∷ 0 ∷ 0 ∷ [])) ∷
    -- "the place is the offset of the lowest faulty record": the second signature of two, and not the node
    refused Types 36 (file_of (0 ∷ 2 ∷ 0 ∷ []) (5 ∷ 0 ∷ 0 ∷ 6 ∷ 3 ∷ 0 ∷ []) [] [] [] (7 ∷ 3 ∷ 1 ∷ 0 ∷ 0 ∷ 0 ∷ 0 ∷ 0 ∷ [])) ∷
    -- "a known kind", "unused words 0", "a let variable of 2 or more"
    refused Nodes 24 (file_of [] [] [] [] [] (12 ∷ 0 ∷ 0 ∷ 0 ∷ [])) ∷
    refused Nodes 24 (file_of [] [] [] [] [] (0 ∷ 1 ∷ 0 ∷ 0 ∷ [])) ∷
    refused Nodes 24 (file_of [] [] [] [] [] (5 ∷ 1 ∷ 1 ∷ 2 ∷ 0 ∷ 0 ∷ 0 ∷ 0 ∷ 0 ∷ 0 ∷ 0 ∷ 0 ∷ [])) ∷
    -- "parts with larger numbers": node 1 is its own; "is each node used once": node 1 is both parts of a let
    refused Nodes 32 (file_of [] [] [] [] [] (0 ∷ 0 ∷ 0 ∷ 0 ∷ 7 ∷ 0 ∷ 1 ∷ 0 ∷ [])) ∷
    refused Nodes 32 (file_of [] [] [] [] [] (5 ∷ 2 ∷ 1 ∷ 1 ∷ 0 ∷ 0 ∷ 0 ∷ 0 ∷ [])) ∷
    -- "A missing body is the method's fault": node 1 of one node
    refused Nodes 36 (file_of (0 ∷ 0 ∷ 0 ∷ []) [] (1 ∷ 0 ∷ 1 ∷ []) [] (5 ∷ 0 ∷ 0 ∷ 1 ∷ []) (0 ∷ 0 ∷ 0 ∷ 0 ∷ [])) ∷
    -- "Are names unique in each list": 5, 6 and 5, "the later record is at fault"; the questions are asked "in order"
    refused Names 42 (file_of (0 ∷ 3 ∷ 0 ∷ []) (5 ∷ 0 ∷ 0 ∷ 6 ∷ 0 ∷ 0 ∷ 5 ∷ 0 ∷ 0 ∷ []) [] [] [] (0 ∷ 0 ∷ 0 ∷ 0 ∷ [])) ∷
    refused Nodes 48 (file_of (0 ∷ 3 ∷ 0 ∷ []) (5 ∷ 0 ∷ 0 ∷ 6 ∷ 0 ∷ 0 ∷ 5 ∷ 0 ∷ 0 ∷ []) [] [] [] (12 ∷ 0 ∷ 0 ∷ 0 ∷ [])) ∷
    -- "has each class at most 8 fields": nine
    refused Names 30
    (file_of (0 ∷ 0 ∷ 0 ∷ []) [] (1 ∷ 9 ∷ 0 ∷ []) (0 ∷ 0 ∷ 1 ∷ 0 ∷ 2 ∷ 0 ∷ 3 ∷ 0 ∷ 4 ∷ 0 ∷ 5 ∷ 0 ∷ 6 ∷ 0 ∷ 7 ∷ 0 ∷ 8 ∷ 0 ∷ []) [] (0 ∷ 0 ∷ 0 ∷ 0 ∷ [])) ∷
    []
