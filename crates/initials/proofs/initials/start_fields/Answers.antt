use Rattle.subtypes.proofs.SubtypeLaws.{laid, class_there}
use Rattle.initials.proofs.InitialLaws as laws
use Rattle.initials.proofs.initials.start_fields.Goals as goal

pub returns-in_default : goal.returns-in_default
returns-in_default c =
    laws.none_started c.declared_as.ensures c.in_default.not-Class

pub first_of-from-requires : goal.first_of-from-requires
first_of-from-requires c =
    (class_there c.declared_as.ensures c.in-Class.is).0

pub own_count-count-requires : goal.own_count-count-requires
own_count-count-requires c =
    (laid c.args.script.now.within_layout, (class_there c.declared_as.ensures c.in-Class.is).0)

pub fill_numbers-requires : goal.fill_numbers-requires
fill_numbers-requires c =
    laws.class_asks c.args.script.now.within_layout c.declared_as.ensures c.in-Class.is _ _ c.first_of-from.ensures c.own_count-count.ensures.0 c.requires

pub returns : goal.returns
returns c =
    laws.class_started c.args.script.now.within_layout c.declared_as.ensures c.in-Class.is _ _ c.first_of-from.ensures c.own_count-count.ensures.0 c.fill_numbers.ensures
