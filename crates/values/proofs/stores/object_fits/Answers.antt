use native.Mathlib.Omega.{arith}
use Rattle.script.specs.declared.Section.TheVariants.{Fields as fields}
use Rattle.subtypes.proofs.SubtypeLaws.{laid, class_there}
use Rattle.members.proofs.LookupLaws.{own_ends}
use Rattle.values.proofs.StoreLaws as laws
use Rattle.values.proofs.stores.object_fits.Goals as goal

pub word-class-requires : goal.word-class-requires
word-class-requires c =
    (omega (arith, c.requires.0.objects.few), omega arith)

pub returns-in_default : goal.returns-in_default
returns-in_default c =
    laws.object_no_class c.requires.0 _ _ c.word-class.ensures.0 c.declared_as.ensures c.in_default.not-Class

pub first_of-from-requires : goal.first_of-from-requires
first_of-from-requires c =
    (class_there c.declared_as.ensures c.in-Class.is).0

pub own_count-count-requires : goal.own_count-count-requires
own_count-count-requires c =
    (laid c.args.script.now.within_layout, (class_there c.declared_as.ensures c.in-Class.is).0)

pub fields_fit-requires : goal.fields_fit-requires
fields_fit-requires c =
    let there = (class_there c.declared_as.ensures c.in-Class.is).0 in
    let few = laws.own_few c.requires.0 _ _ c.word-class.ensures.0 c.declared_as.ensures c.in-Class.is c.requires.1 in
    (c.requires.0, c.requires.1, own_ends c.args.script.now.within_layout fields _ there _ _ c.first_of-from.ensures c.own_count-count.ensures.0, omega (arith, c.own_count-count.ensures.0, few))

pub returns : goal.returns
returns c =
    laws.object_class c.requires.0 _ _ c.word-class.ensures.0 c.declared_as.ensures c.in-Class.is _ _ _ c.first_of-from.ensures c.own_count-count.ensures.0 c.fields_fit.ensures
