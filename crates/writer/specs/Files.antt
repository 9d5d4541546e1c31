-- What the file's writer writes.
use Rattle.std.specs.Prelude.{ℕ, ◌-◌, ◌≤◌, ◌≡◌, List, ◌++◌, length, replicate}
use Rattle.words.specs.Word.{bytes}
use Rattle.limits.specs.Limits.{FILE}
use Rattle.rows.specs.Rows.{Item, contents_words, sections_words}
use Rattle.script.specs.declared.Section.TheVariants.{Interfaces as interfaces, Signatures as signatures, Classes as classes}
use Rattle.script.specs.declared.Section.TheVariants.{Fields as fields, Methods as methods, Nodes as nodes}
use Rattle.bounds.specs.declared.counts.Counts.{Counts}
use Rattle.bounds.specs.Counting.{counted_of, types_of}

-- The contents.
unfoldable pub contents_by : Counts → List ℕ
contents_by c =
    contents_words (counted_of c interfaces) (counted_of c signatures) (counted_of c classes) (counted_of c fields) (counted_of c methods) (counted_of c nodes)

-- The words of the file.
abbrev pub file_words : Counts → ℕ → List Item → List ℕ
file_words c start es = contents_by c ++ sections_words (types_of c) start es

-- The file of these words, in a buffer that has zeros behind it.
pub record FileIs (ws file : List ℕ) (r : ℕ) : Type 0 where
  pub file_is : file ≡ bytes ws ++ replicate (FILE - r) 0
  pub length_is : r ≡ length (bytes ws)
  pub fits : r ≤ FILE
