use Rattle.subtypes.proofs.SubtypeLaws.{laid, class_there}
use Rattle.in_order.proofs.KindLaws as laws
use Rattle.in_order.proofs.records.field_count.Goals as goal

pub returns-in_default : goal.returns-in_default
returns-in_default c =
    laws.no_fields c.declared_as.ensures c.in_default.not-Class

pub own_count-requires : goal.own_count-requires
own_count-requires c =
    (laid c.requires, (class_there c.declared_as.ensures c.in-Class.is).0)

pub returns : goal.returns
returns c =
    laws.class_fields c.declared_as.ensures _ c.requires c.in-Class.is c.own_count.ensures.0
