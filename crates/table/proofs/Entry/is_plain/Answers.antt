use Rattle.table.proofs.TableLaws.{plain_turn}
use Rattle.table.proofs.Entry.is_plain.Goals as goal

pub returns : goal.returns
returns c =
    plain_turn c.args.self.bits
