use native.Mathlib.Omega.{arith}
use Rattle.subtypes.proofs.SubtypeLaws.{class_there}
use Rattle.classes.proofs.FieldLaws.{placed, place_miss, place_past, place_hit, place_none}
use Rattle.classes.proofs.classes.field_place.Goals as goal

pub returns-in_default : goal.returns-in_default
returns-in_default c =
    let e = place_none c.declared_as.ensures _ c.in_default.not-Class in
    record { value = e; by_index = placed c.args.script.now.within_layout _ _ _ e }

pub find_own-requires : goal.find_own-requires
find_own-requires c =
    (class_there c.declared_as.ensures c.in-Class.is).0

pub returns-in_err-i : goal.returns-in_err-i
returns-in_err-i c =
    let e = place_miss c.declared_as.ensures _ c.in-Class.is _ c.find_own.ensures c.in_err-i.was in
    rw c.from_residual.ensures (record { value = e; by_index = placed c.args.script.now.within_layout _ _ _ e })

pub first_of-requires : goal.first_of-requires
first_of-requires c =
    (class_there c.declared_as.ensures c.in-Class.is).0

pub overflow_sub-result : goal.overflow_sub-result
overflow_sub-result c =
    omega (arith, place_past c.declared_as.ensures _ c.in-Class.is _ c.find_own.ensures _ _ c.in_ok-i.was c.first_of.ensures)

pub returns : goal.returns
returns c =
    let e = place_hit c.declared_as.ensures _ c.in-Class.is _ c.find_own.ensures _ _ c.in_ok-i.was c.first_of.ensures in
    record { value = e; by_index = placed c.args.script.now.within_layout _ _ _ e }
