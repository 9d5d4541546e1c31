use native.Mathlib.Omega.{arith}
use Rattle.machine.specs.Machine.{field_count}
use Rattle.in_order.proofs.KindLaws as laws
use mathlib.Core.Path.{ap}
use mathlib.Core.Bool.{not}
use Rattle.in_order.proofs.records.object_in_order.Goals as goal

pub returns-then-shut-gt1 : goal.returns-then-shut-gt1
returns-then-shut-gt1 c =
    laws.neither_open_nor_shut (field_count c.args.s.now) c.args.block.now c.args.i _ c.word-shut.ensures.0 (omega arith)

pub returns-then-not-fields_in_order : goal.returns-then-not-fields_in_order
returns-then-not-fields_in_order c =
    laws.field_refused (field_count c.args.s.now) c.args.block.now c.args.i _ c.word-shut.ensures.0 _ _ c.word-class.ensures.0 c.field_count-n.ensures.0 c.fields_in_order.ensures (ap not c.if-not-fields_in_order.true)

pub returns : goal.returns
returns c =
    laws.object_asked (field_count c.args.s.now) c.args.block.now c.args.i _ c.word-shut.ensures.0 _ _ (omega arith) c.word-class.ensures.0 c.field_count-n.ensures.0 c.field_count-n.ensures.1 c.fields_in_order.ensures (ap not c.if-not-fields_in_order.false) c.unused.ensures
