use native.Mathlib.Omega.{arith}
use Rattle.values.proofs.BindingLaws.{bindings_begun, bindings_no, bindings_more, bindings_done}
use mathlib.Core.Path.{ap}
use mathlib.Core.Bool.{not}
use Rattle.values.proofs.stores.bindings_fit.Goals as goal

pub loop-i-init : goal.loop-i-init
loop-i-init c =
    (omega (arith, c.count-count.ensures.0), bindings_begun _ _ _ c.count-count.ensures.0)

pub binding_fits-requires : goal.binding_fits-requires
binding_fits-requires c =
    (c.requires.0, c.requires.1, omega arith)

pub returns-then-not-binding_fits : goal.returns-then-not-binding_fits
returns-then-not-binding_fits c =
    bindings_no _ _ _ c.loop-i.invariant.1 _ (omega arith) c.binding_fits.ensures (ap not c.if-not-binding_fits.true)

pub loop-i-preserved : goal.loop-i-preserved
loop-i-preserved c =
    (omega arith, bindings_more _ _ _ c.loop-i.invariant.1 _ (omega arith) c.binding_fits.ensures (ap not c.if-not-binding_fits.false))

pub returns : goal.returns
returns c =
    bindings_done _ _ c.loop-i.i c.loop-i.invariant.1 (omega arith)
