use Rattle.subtypes.proofs.RowLaws.{marked_bit}
use Rattle.subtypes.proofs.rows.mark.Goals as goal

pub returns : goal.returns
returns c =
    marked_bit c.args.rows.now _ c.requires.0 c.requires.1
