use native.Mathlib.Omega.{arith}
use Rattle.values.proofs.StoreLaws.{objects_begun, all_no, all_more, all_done}
use mathlib.Core.Path.{ap}
use mathlib.Core.Bool.{not}
use Rattle.values.proofs.stores.objects_fit.Goals as goal

pub loop-i-init : goal.loop-i-init
loop-i-init c =
    (omega arith, objects_begun c.requires _ c.count-count.ensures.0)

pub object_fits-requires : goal.object_fits-requires
object_fits-requires c =
    (c.requires, omega (arith, c.count-count.ensures.0))

pub returns-then-not-object_fits : goal.returns-then-not-object_fits
returns-then-not-object_fits c =
    all_no _ _ _ _ _ c.loop-i.invariant.1 _ (omega arith) c.object_fits.ensures (ap not c.if-not-object_fits.true)

pub loop-i-preserved : goal.loop-i-preserved
loop-i-preserved c =
    (omega arith, all_more _ _ _ _ _ c.loop-i.invariant.1 _ (omega arith) c.object_fits.ensures (ap not c.if-not-object_fits.false))

pub returns : goal.returns
returns c =
    all_done _ _ _ _ _ c.loop-i.invariant.1 (omega arith)
