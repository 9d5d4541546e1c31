use lib.Seq.{drop-drop}
use borrow.Author.Tests.{leb-true}
use Rattle.row_words.proofs.sections.row_at.Goals as goal

pub node_row-requires : goal.node_row-requires
node_row-requires c = leb-true 16 _ (rw c.in-Nodes.is at c.requires)

pub returns-in-Interfaces : goal.returns-in-Interfaces
returns-in-Interfaces c es m e =
    rw c.in-Interfaces.is (c.interface_row.ensures es m.marks)

pub returns-in-Signatures : goal.returns-in-Signatures
returns-in-Signatures c es m e =
    rw c.in-Signatures.is (c.signature_row.ensures es m.marks)

pub returns-in-Classes : goal.returns-in-Classes
returns-in-Classes c es m e =
    rw c.in-Classes.is (c.class_row.ensures es m.marks)

pub returns-in-Fields : goal.returns-in-Fields
returns-in-Fields c es m e =
    rw c.in-Fields.is (c.field_row.ensures es m.marks)

pub returns-in-Methods : goal.returns-in-Methods
returns-in-Methods c es m e =
    rw c.in-Methods.is (c.method_row.ensures es m.marks)

pub returns-in-Nodes : goal.returns-in-Nodes
returns-in-Nodes c es m e =
    rw (c.in-Nodes.is, drop-drop, ← e c.in-Nodes.is) (c.node_row.ensures es m)
