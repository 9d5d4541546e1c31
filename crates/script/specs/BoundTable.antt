-- Document 01's limits in plain numbers, each beside its words: scripts on both sides of a limit, and the limits of a block and of lent buffers.
-- `proofs/BoundTable.antt` has a theorem over each table.
use Rattle.std.specs.Prelude.{ℕ, ◌+◌, ◌*◌, List, [], ◌∷◌, ◌++◌, replicate}
use Rattle.std.proofs.Math.Option.{Option, none, some}
use Rattle.words.specs.Word.{bytes}
use Rattle.limits.specs.Limits.{BLOCK, OBJECTS, BINDINGS, FRAMES, THREADS, POSITIONS, CHOICES, FLAGS, SILENT}
use Rattle.script.specs.declared.Refusal.{Refusal}
use Rattle.script.specs.Asking.{number_of, first_no}
use Rattle.script.specs.Questions.{layout_questions}
use Rattle.script.specs.KindTable.{every_section}

-- The first no of a script to questions 1 to 8: its number and place, if it gets one.
abbrev pub refusal_numbers : Option Refusal → Option (ℕ × ℕ)
refusal_numbers none = none
refusal_numbers (some r) = some (number_of r.question, r.place)

abbrev pub layout_no : List ℕ → Option (ℕ × ℕ)
layout_no s = refusal_numbers (first_no (layout_questions s))

-- The contents alone, with these counts: question 2 asks nothing else, and question 3 gets a no, since no body follows.
abbrev pub contents_of : ℕ → ℕ → ℕ → ℕ → ℕ → ℕ → List ℕ
contents_of i g c f m n = bytes (24 ∷ i ∷ 24 ∷ g ∷ 24 ∷ c ∷ 24 ∷ f ∷ 24 ∷ m ∷ 24 ∷ n ∷ [])

-- An empty list interface, a class of it with k fields, these being their words, and the start null.
abbrev pub with_fields : ℕ → List ℕ → List ℕ
with_fields k fs =
    bytes
    (24 ∷ 1 ∷ 30 ∷ 0 ∷ 30 ∷ 1 ∷ 36 ∷ k ∷ (36 + 4 * k) ∷ 0 ∷ (36 + 4 * k) ∷ 1 ∷ 0 ∷ 0 ∷ 0 ∷ 1 ∷ k ∷ 0 ∷ (fs ++ (0 ∷ 0 ∷ 0 ∷ 0 ∷ [])))

-- Scripts, each with its first no.
unfoldable pub bounds : List (List ℕ × Option (ℕ × ℕ))
bounds =
    -- "Is the file 24 to 13,592 bytes? 1": with zeros alone there is no node
    (replicate 23 0, some (1, 0)) ∷
    (replicate 24 0, some (2, 0)) ∷
    (replicate 13592 0, some (2, 0)) ∷
    (replicate 13593 0, some (1, 0)) ∷
    -- "Most records": 64 interfaces, 256 signatures, 64 classes, 256 fields, 256 methods and 1,024 nodes, and one more of each; "and is there a node?"
    (contents_of 64 256 64 256 256 1024, some (3, 0)) ∷
    (contents_of 65 256 64 256 256 1024, some (2, 0)) ∷
    (contents_of 64 257 64 256 256 1024, some (2, 0)) ∷
    (contents_of 64 256 65 256 256 1024, some (2, 0)) ∷
    (contents_of 64 256 64 257 256 1024, some (2, 0)) ∷
    (contents_of 64 256 64 256 257 1024, some (2, 0)) ∷
    (contents_of 64 256 64 256 256 1025, some (2, 0)) ∷
    (contents_of 64 256 64 256 256 0, some (2, 0)) ∷
    -- "has each class at most 8 fields?": the class is at byte 30
    (with_fields 8 (0 ∷ 0 ∷ 1 ∷ 0 ∷ 2 ∷ 0 ∷ 3 ∷ 0 ∷ 4 ∷ 0 ∷ 5 ∷ 0 ∷ 6 ∷ 0 ∷ 7 ∷ 0 ∷ []), none) ∷
    (with_fields 9 (0 ∷ 0 ∷ 1 ∷ 0 ∷ 2 ∷ 0 ∷ 3 ∷ 0 ∷ 4 ∷ 0 ∷ 5 ∷ 0 ∷ 6 ∷ 0 ∷ 7 ∷ 0 ∷ 8 ∷ 0 ∷ []), some (8, 30)) ∷
    -- every section and kind
    (every_section, none) ∷
    []

-- Limits that no question about a script asks, each with its number.
unfoldable pub limit_rows : List (ℕ × ℕ)
limit_rows =
    -- "The block grows to 65,536 bytes"
    (BLOCK, 65536) ∷
    -- "A block holds at most 256 objects (class, open or shut, fields), 2,048 variable bindings (name, type, value, the binding beneath), 2,048 waiting frames
    -- in all, and a tree of joins with at most 32 threads", which has 63 positions
    (OBJECTS, 256) ∷
    (BINDINGS, 2048) ∷
    (FRAMES, 2048) ∷
    (THREADS, 32) ∷
    (POSITIONS, 63) ∷
    -- "Is the choice list at most 4,096 bytes (Run), or the flag buffer exactly 63 (Offer)?"
    (CHOICES, 4096) ∷
    (FLAGS, 63) ∷
    -- "A thread makes at most 1,024 silent moves in a row."
    (SILENT, 1024) ∷
    []
