use Rattle.spellings.specs.Table.{name_from}
use Rattle.spellings.proofs.TableLaws.{Looking}
use Rattle.spellings.proofs.table.NameTable.search.Given as goal

abbrev pub invariant-loop-next : goal.invariant-loop-next
invariant-loop-next g l = Looking l.text.bytes.now l.self (name_from l.text.bytes.now l.at) l.next

abbrev pub decreases-loop-next : goal.decreases-loop-next
decreases-loop-next g l = l.next
