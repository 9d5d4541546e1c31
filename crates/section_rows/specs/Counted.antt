-- What is known when the sections are written, and their rows.
use Rattle.std.specs.Prelude.{ℕ, ◌+◌, ◌-◌, ◌*◌, ◌≤◌, ◌<◌, ◌≡◌, List, ◌++◌, length, drop}
use Rattle.words.specs.Word.{WORD}
use Rattle.script.specs.declared.Section.{Section}
use Rattle.script.specs.declared.Section.TheVariants.{Interfaces as interfaces, Signatures as signatures, Classes as classes}
use Rattle.script.specs.declared.Section.TheVariants.{Fields as fields, Methods as methods, Nodes as nodes}
use Rattle.script.specs.Section.{most_of}
use Rattle.rows.specs.Rows.{Item, sizes_of}
use Rattle.token_words.specs.Items.{Readable, items_of}
use Rattle.bounds.specs.declared.counts.Counts.{Counts}
use Rattle.bounds.specs.Counting.{counted_of}
use Rattle.section_rows.specs.Records.{begun_among, rows_of}

-- No section has too many records.
pub record CountsFit (c : Counts) : Type 0 where
  pub within : (s : Section) → counted_of c s ≤ most_of s

-- These are the counts of the records that begin at tokens with these roles.
pub record CountsRight (roles : List ℕ) (c : Counts) : Type 0 where
  pub counts_are : (s : Section) → counted_of c s ≡ begun_among s roles

-- What is written of the text's tokens: they can be read, and `sizes` are those of all nodes; the first `base` numbers are the start's nodes'.
pub record SizesKnown (text roles offsets values sizes : List ℕ) (types base : ℕ) : Type 0 where
  pub readable : Readable text roles offsets values sizes types
  pub sizes_are : sizes ≡ sizes_of (items_of text roles offsets values)
  pub few_nodes : base + 1 + 2 * length sizes < WORD

-- The records of a section among all items.
abbrev pub all_rows : Section → ℕ → ℕ → List Item → List ℕ
all_rows s types n es = rows_of s types (length es) n es

-- The records of the sections whose rows have no node's number; with the methods, where the bodies' nodes are numbered from n on; and the nodes, the start's
-- before the bodies'.
abbrev pub rows_all_plain : ℕ → List Item → List ℕ
rows_all_plain types es =
    (all_rows interfaces types 0 es ++ all_rows signatures types 0 es) ++ (all_rows classes types 0 es ++ all_rows fields types 0 es)

abbrev pub record_rows : ℕ → ℕ → List Item → List ℕ
record_rows types n es = rows_all_plain types es ++ all_rows methods types n es

abbrev pub start_and_bodies : ℕ → ℕ → ℕ → List Item → List ℕ
start_and_bodies types start n es = rows_of nodes types (length es - start) 0 (drop start es) ++ rows_of nodes types start n es
