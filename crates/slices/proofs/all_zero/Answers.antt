use native.Mathlib.Omega.{arith}
use Rattle.slices.proofs.Zero.{seen_none, seen_more, seen_all, seen_other}
use Rattle.slices.proofs.all_zero.Goals as goal

pub loop-x-init : goal.loop-x-init
loop-x-init c =
    seen_none _

pub loop-x-preserved : goal.loop-x-preserved
loop-x-preserved c =
    seen_more _ _ _ c.loop-x.invariant

pub returns : goal.returns
returns c =
    (seen_all _ _ _ c.loop-x.invariant (omega arith), seen_other _ _ _ c.loop-x.invariant (omega arith))
