use Rattle.subtypes.proofs.SubtypeLaws.{run_of_none}
use Rattle.subtypes.proofs.scripts.Script.first_of.Goals as goal

pub returns-in_default : goal.returns-in_default
returns-in_default c =
    run_of_none _ _ _ c.in_default.not-Signatures c.in_default.not-Fields c.in_default.not-Methods
