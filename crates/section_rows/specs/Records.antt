-- The records of a section, in the order of the text.
use Rattle.std.specs.Prelude.{ℕ, zero, suc, ◌≤◌, ◌≡◌, cond, List, [], ◌∷◌, ◌++◌, length, take}
use Rattle.script.specs.declared.Section.{Section}
use Rattle.script.specs.declared.Section.TheVariants.{Nodes as nodes}
use Rattle.grammar.specs.Faults.{begins_test}
use Rattle.rows.specs.Rows.{Item, row_item, one_added_if}
use Rattle.row_words.specs.Row.{row_of}

-- How many records of a section begin at tokens with these roles.
unfoldable pub begun_among : Section → List ℕ → ℕ
begun_among s [] = 0
begun_among s (r ∷ roles) = one_added_if (begins_test s r) (begun_among s roles)

-- The words of the record that begins with the first item, if one of the section does.
abbrev pub row_if : Section → ℕ → ℕ → List Item → List ℕ
row_if s types n es = cond (begins_test s (row_item es 0).role) (row_of s types n es) []

-- The words of the records that begin among the first k items, where the next node is node n.
unfoldable pub rows_of : Section → ℕ → ℕ → ℕ → List Item → List ℕ
rows_of s types zero n es = []
rows_of s types (suc k) n [] = []
rows_of s types (suc k) n (e ∷ es) = row_if s types n (e ∷ es) ++ rows_of s types k (one_added_if (begins_test nodes e.role) n) es

-- No row of the section has a node's number, so that it is the same whichever node is next.
pub record Unnumbered (s : Section) : Type 0 where
  pub same : (types m n : ℕ) (es : List Item) → row_of s types m es ≡ row_of s types n es

-- The nodes with the numbers from `from` on before `to` in the order of the text are those that begin from token a on before token b.
pub record Stretch (roles : List ℕ) (from to a b : ℕ) : Type 0 where
  pub ordered : a ≤ b
  pub inside : b ≤ length roles
  pub from_is : from ≡ begun_among nodes (take a roles)
  pub to_is : to ≡ begun_among nodes (take b roles)
