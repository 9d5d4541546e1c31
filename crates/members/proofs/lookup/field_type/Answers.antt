use native.Mathlib.Omega.{arith}
use Rattle.script.specs.declared.Section.TheVariants.{Fields as fields}
use Rattle.subtypes.proofs.SubtypeLaws.{laid, class_there}
use Rattle.members.proofs.LookupLaws.{own_there, field_hit, field_miss, field_none}
use Rattle.members.proofs.lookup.field_type.Goals as goal

pub returns-in_default : goal.returns-in_default
returns-in_default c =
    field_none c.declared_as.ensures _ c.in_default.not-Class

pub find_own-requires : goal.find_own-requires
find_own-requires c =
    (class_there c.declared_as.ensures c.in-Class.is).0

pub returns-in_err-i : goal.returns-in_err-i
returns-in_err-i c =
    rw c.from_residual.ensures (field_miss c.declared_as.ensures _ c.in-Class.is _ c.find_own.ensures c.in_err-i.was)

pub record_word-requires : goal.record_word-requires
record_word-requires c =
    let w = c.args.script.now.within_layout in
    (laid w, own_there w fields _ _ _ _ (class_there c.declared_as.ensures c.in-Class.is).0 c.find_own.ensures c.in_ok-i.was, omega arith)

pub returns : goal.returns
returns c =
    field_hit c.declared_as.ensures _ c.in-Class.is _ c.find_own.ensures _ _ c.in_ok-i.was c.record_word.ensures.0
