use Rattle.subtypes.proofs.SubtypeLaws.{class_interface}
use Rattle.interfaces.proofs.CoverLaws.{no_covers, class_covers}
use Rattle.interfaces.proofs.covers.implements.Goals as goal

pub covers-requires : goal.covers-requires
covers-requires c =
    (c.requires, class_interface c.args.script.now.within_layout _ _ c.requires c.record_word-t.ensures.0, no_covers _ _)

pub returns : goal.returns
returns c =
    class_covers _ _ _ _ c.record_word-t.ensures.0 c.covers.ensures.0
