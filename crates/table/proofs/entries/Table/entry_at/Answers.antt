use borrow.Author.Rules.{rules}
use Rattle.table.proofs.TableLaws.{turn_is}
use Rattle.table.proofs.entries.Table.entry_at.Goals as goal

pub returns : goal.returns
returns c =
    turn_is c.args.self.now.entries.now c.args.point c.args.kind c.args.self.now.entries_are (search rules) (search rules)
