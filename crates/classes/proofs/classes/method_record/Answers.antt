use Rattle.subtypes.proofs.SubtypeLaws.{class_there}
use Rattle.classes.proofs.MethodLaws.{record_own, record_none}
use Rattle.classes.proofs.classes.method_record.Goals as goal

pub returns-in_default : goal.returns-in_default
returns-in_default c =
    record_none c.declared_as.ensures _ c.in_default.not-Class

pub find_own-requires : goal.find_own-requires
find_own-requires c =
    (class_there c.declared_as.ensures c.in-Class.is).0

pub returns : goal.returns
returns c =
    record_own c.declared_as.ensures _ c.args.script.now.within_layout c.in-Class.is _ c.find_own.ensures
