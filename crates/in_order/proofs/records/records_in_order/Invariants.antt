use Rattle.machine.specs.Machine.{field_count}
use Rattle.representation.specs.InOrder.{RecordsOk}
use Rattle.in_order.proofs.records.records_in_order.Given as goal

abbrev pub invariant-loop-i : goal.invariant-loop-i
invariant-loop-i l = RecordsOk (field_count l.s) l.block l.a l.i
