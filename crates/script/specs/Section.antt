-- The script file: its contents, sections and records.
use Rattle.std.specs.Prelude.{ℕ, ◌+◌, ◌*◌, List, [], ◌∷◌}
pub use Rattle.script.specs.declared.Section.{Section}
pub use Rattle.script.specs.declared.Section.TheVariants.{Interfaces as interfaces, Signatures as signatures, Classes as classes}
pub use Rattle.script.specs.declared.Section.TheVariants.{Fields as fields, Methods as methods, Nodes as nodes}
use Rattle.words.specs.Word.{word_at}
use Rattle.limits.specs.Limits.{INTERFACES, SIGNATURES, CLASSES, FIELDS, METHODS, NODES}

-- "six entries of two words, byte offset and record count, for interfaces, signatures, classes, fields, methods, nodes. The bodies follow in that order"

unfoldable pub sections : List Section
sections = interfaces ∷ signatures ∷ classes ∷ fields ∷ methods ∷ nodes ∷ []

-- The number of a section's entry in the contents.
abbrev pub entry_of : Section → ℕ
entry_of interfaces = 0
entry_of signatures = 1
entry_of classes = 2
entry_of fields = 3
entry_of methods = 4
entry_of nodes = 5

-- "Most records"
abbrev pub most_of : Section → ℕ
most_of interfaces = INTERFACES
most_of signatures = SIGNATURES
most_of classes = CLASSES
most_of fields = FIELDS
most_of methods = METHODS
most_of nodes = NODES

-- "Words of a record", in bytes.
abbrev pub size_of : Section → ℕ
size_of interfaces = 6
size_of signatures = 6
size_of classes = 6
size_of fields = 4
size_of methods = 8
size_of nodes = 8

-- What the contents say of a section: where its body stands, and how many records it has.
unfoldable pub body_at : List ℕ → Section → ℕ
body_at s k = word_at s (4 * entry_of k)

unfoldable pub count_of : List ℕ → Section → ℕ
count_of s k = word_at s (4 * entry_of k + 2)

-- The first byte after a section's body.
unfoldable pub end_of : List ℕ → Section → ℕ
end_of s k = body_at s k + size_of k * count_of s k

-- The offset of a record, which is its place in a refusal.
unfoldable pub record_at : List ℕ → Section → ℕ → ℕ
record_at s k i = body_at s k + size_of k * i

-- Word j of record i.
unfoldable pub record_word : List ℕ → Section → ℕ → ℕ → ℕ
record_word s k i j = word_at s (record_at s k i + 2 * j)

abbrev pub node_word : List ℕ → ℕ → ℕ → ℕ
node_word s n j = record_word s nodes n j
