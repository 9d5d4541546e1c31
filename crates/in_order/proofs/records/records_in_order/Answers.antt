use native.Mathlib.Omega.{arith}
use Rattle.machine.specs.Machine.{field_count}
use Rattle.in_order.proofs.EachLaws as laws
use mathlib.Core.Path.{ap}
use mathlib.Core.Bool.{not}
use Rattle.in_order.proofs.records.records_in_order.Goals as goal

pub loop-i-init : goal.loop-i-init
loop-i-init c =
    laws.none_asked

pub record_in_order-requires : goal.record_in_order-requires
record_in_order-requires c =
    (c.requires.0, omega (arith, c.count-n.ensures.0, c.requires.1))

pub returns-then-not-record_in_order : goal.returns-then-not-record_in_order
returns-then-not-record_in_order c =
    laws.one_not (field_count c.args.s.now) c.args.block.now c.args.a c.loop-i.i _ c.count-n.ensures.0 (omega arith) c.record_in_order.ensures (ap not c.if-not-record_in_order.true)

pub loop-i-preserved : goal.loop-i-preserved
loop-i-preserved c =
    laws.one_more c.loop-i.invariant c.record_in_order.ensures (ap not c.if-not-record_in_order.false)

pub returns : goal.returns
returns c =
    laws.all_asked _ c.loop-i.invariant c.count-n.ensures.0 (omega arith)
