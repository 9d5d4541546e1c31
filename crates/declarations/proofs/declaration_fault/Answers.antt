use Rattle.std.proofs.Common.{arith}
use Rattle.declarations.proofs.Exact.{told_both, told_again, told_nowhere}
use Rattle.declarations.proofs.declaration_fault.Goals as goal

pub returns-in-Some-Some : goal.returns-in-Some-Some
returns-in-Some-Some g c =
    let k = c.args.linked.now.tokens in
    let numbered = c.number_names.ensures in
    told_both _ _ _ _ (omega arith) (omega (arith, k.offset_each)) _ _ c.requires.room.0 numbered.values_are _ _ _ c.first_again-again.ensures
    (c.first_nowhere-nowhere.ensures _ numbered.holds numbered.counted) _ _ _ c.in-Some-Some.is-0 c.in-Some-Some.is-1 c.min.ensures

pub returns-in-Some-None : goal.returns-in-Some-None
returns-in-Some-None g c =
    let k = c.args.linked.now.tokens in
    let numbered = c.number_names.ensures in
    told_again _ _ _ _ (omega arith) (omega (arith, k.offset_each)) _ _ c.requires.room.0 numbered.values_are _ _ _ c.first_again-again.ensures
    (c.first_nowhere-nowhere.ensures _ numbered.holds numbered.counted) _ c.in-Some-None.is-0 c.in-Some-None.is-1

pub returns-in-None-default : goal.returns-in-None-default
returns-in-None-default g c =
    let k = c.args.linked.now.tokens in
    let numbered = c.number_names.ensures in
    told_nowhere _ _ _ _ (omega arith) (omega (arith, k.offset_each)) _ _ c.requires.room.0 numbered.values_are _ _ _ c.first_again-again.ensures
    (c.first_nowhere-nowhere.ensures _ numbered.holds numbered.counted) c.in-None-default.is-0
