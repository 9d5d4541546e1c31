use borrow.Author.Tests.{le-leb, lt-leb}
use lib.Dec.{leb}
use Prim.Native.Nat.{◌≤◌}
use Rattle.script.specs.Asking.{Decides}
use Rattle.machine.specs.Machine.{field_count}
use Rattle.block.specs.Layout.{most, counted}
use Rattle.representation.specs.InOrder.{RecordsOk}
use Rattle.in_order.proofs.Answers.{both_asked, first_refused}
use Rattle.canonical.proofs.WholeLaws as laws
use Rattle.canonical.proofs.whole.area_in_order.Goals as goal
use Rattle.canonical.proofs.whole.area_in_order.Goals.{then-n-all, else-n-all}

pub returns-then-records_in_order : goal.returns-then-records_in_order
returns-then-records_in_order c =
    let few : Decides (counted c.args.block.now c.args.a ≤ most c.args.a) (leb c.count-n.result c.most_of-all.result) =
    laws.few_asked (field_count c.args.s.now) _ _ _ _ c.count-n.ensures.0 c.most_of-all.ensures
    in
    let d : Decides ((counted c.args.block.now c.args.a ≤ most c.args.a) × RecordsOk (field_count c.args.s.now) c.args.block.now c.args.a (counted c.args.block.now c.args.a)) c.if-n-all.value =
    elim c.if-n-all.branch [
      | then-n-all w ↦ both_asked few (le-leb _ _ w.if-n-all.true) w.records_in_order.ensures w.value-is
      | else-n-all w ↦ first_refused few (lt-leb _ _ w.if-n-all.false) w.value-is
    ]
    in
    laws.area_asked _ _ _ d c.if-records_in_order.true c.blank.ensures

pub returns-else-records_in_order : goal.returns-else-records_in_order
returns-else-records_in_order c =
    let few : Decides (counted c.args.block.now c.args.a ≤ most c.args.a) (leb c.count-n.result c.most_of-all.result) =
    laws.few_asked (field_count c.args.s.now) _ _ _ _ c.count-n.ensures.0 c.most_of-all.ensures
    in
    let d : Decides ((counted c.args.block.now c.args.a ≤ most c.args.a) × RecordsOk (field_count c.args.s.now) c.args.block.now c.args.a (counted c.args.block.now c.args.a)) c.if-n-all.value =
    elim c.if-n-all.branch [
      | then-n-all w ↦ both_asked few (le-leb _ _ w.if-n-all.true) w.records_in_order.ensures w.value-is
      | else-n-all w ↦ first_refused few (lt-leb _ _ w.if-n-all.false) w.value-is
    ]
    in
    laws.bad_record _ _ _ d c.if-records_in_order.false
