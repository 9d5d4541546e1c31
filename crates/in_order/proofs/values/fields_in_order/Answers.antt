use native.Mathlib.Omega.{arith}
use Rattle.in_order.proofs.ValueLaws as laws
use mathlib.Core.Path.{ap}
use mathlib.Core.Bool.{not}
use Rattle.in_order.proofs.values.fields_in_order.Goals as goal

pub loop-k-init : goal.loop-k-init
loop-k-init c =
    laws.no_field

pub value_in_order-requires : goal.value_in_order-requires
value_in_order-requires c =
    (omega arith, omega arith)

pub returns-then-not-value_in_order : goal.returns-then-not-value_in_order
returns-then-not-value_in_order c =
    laws.field_not _ _ (omega arith) c.value_in_order.ensures (ap not c.if-not-value_in_order.true)

pub loop-k-preserved : goal.loop-k-preserved
loop-k-preserved c =
    laws.field_more c.loop-k.invariant c.value_in_order.ensures (ap not c.if-not-value_in_order.false)

pub returns : goal.returns
returns c =
    laws.fields_asked _ c.loop-k.invariant (omega arith)
