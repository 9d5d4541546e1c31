-- The words of one record, by its section.
use Rattle.std.specs.Prelude.{ℕ, List, drop}
use Rattle.script.specs.declared.Section.{Section}
use Rattle.script.specs.declared.Section.TheVariants.{Interfaces as interfaces, Signatures as signatures, Classes as classes}
use Rattle.script.specs.declared.Section.TheVariants.{Fields as fields, Methods as methods, Nodes as nodes}
use Rattle.rows.specs.Rows.{Item, interface_row, signature_row, class_row, field_row, method_row, node_row, sizes_of}

-- The words of the record of a section that begins with the first item, where the next node is node n.
abbrev pub row_of : Section → ℕ → ℕ → List Item → List ℕ
row_of interfaces types n es = interface_row types es
row_of signatures types n es = signature_row types es
row_of classes types n es = class_row types es
row_of fields types n es = field_row types es
row_of methods types n es = method_row types n es
row_of nodes types n es = node_row types n (sizes_of (drop 1 es)) es
