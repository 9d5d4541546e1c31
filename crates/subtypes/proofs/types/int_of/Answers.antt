use native.Mathlib.Omega.{arith}
use Rattle.subtypes.proofs.SubtypeLaws.{int_small, int_is}
use Rattle.subtypes.proofs.types.int_of.Goals as goal

pub overflow_cast-result : goal.overflow_cast-result
overflow_cast-result c =
    omega (arith, int_small c.requires _ _ c.count_of-interfaces.ensures.0 c.count_of-classes.ensures.0)

pub returns : goal.returns
returns c =
    let w = c.requires in
    let i = c.count_of-interfaces.ensures.0 in
    let k = c.count_of-classes.ensures.0 in
    (int_is w _ _ i k, int_small w _ _ i k)
