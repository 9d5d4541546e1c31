use Rattle.script.specs.Asking.{Decides}
use Rattle.machine.specs.Machine.{field_count}
use Rattle.in_order.proofs.Answers.{both_asked, first_refused}
use Rattle.canonical.proofs.WholeLaws as laws
use Rattle.canonical.proofs.whole.threads_in_order.Goals as goal
use Rattle.canonical.proofs.whole.threads_in_order.Goals.{then-area_in_order, else-area_in_order, then-area_in_order-2, else-area_in_order-2, then-one_tree, else-one_tree}

pub returns-then-frames_add_up : goal.returns-then-frames_add_up
returns-then-frames_add_up c =
    let areas : Decides (laws.Areas (field_count c.args.s.now) c.args.block.now) c.if-area_in_order.value =
    elim c.if-area_in_order.branch [
      | then-area_in_order w ↦ both_asked c.area_in_order.ensures w.if-area_in_order.true w.area_in_order-then-area_in_order.ensures w.value-is
      | else-area_in_order w ↦ first_refused c.area_in_order.ensures w.if-area_in_order.false w.value-is
    ]
    in
    let trees : Decides (laws.Tree (field_count c.args.s.now) c.args.block.now) c.if-area_in_order-2.value =
    elim c.if-area_in_order-2.branch [
      | then-area_in_order-2 w ↦ both_asked areas w.if-area_in_order-2.true w.one_tree.ensures w.value-is
      | else-area_in_order-2 w ↦ first_refused areas w.if-area_in_order-2.false w.value-is
    ]
    in
    let counts : Decides (laws.Counted (field_count c.args.s.now) c.args.block.now) c.if-one_tree.value =
    elim c.if-one_tree.branch [
      | then-one_tree w ↦ both_asked trees w.if-one_tree.true w.frames_add_up.ensures w.value-is
      | else-one_tree w ↦ first_refused trees w.if-one_tree.false w.value-is
    ]
    in
    laws.threads_asked counts c.if-frames_add_up.true c.zeros.ensures

pub returns-else-frames_add_up : goal.returns-else-frames_add_up
returns-else-frames_add_up c =
    let areas : Decides (laws.Areas (field_count c.args.s.now) c.args.block.now) c.if-area_in_order.value =
    elim c.if-area_in_order.branch [
      | then-area_in_order w ↦ both_asked c.area_in_order.ensures w.if-area_in_order.true w.area_in_order-then-area_in_order.ensures w.value-is
      | else-area_in_order w ↦ first_refused c.area_in_order.ensures w.if-area_in_order.false w.value-is
    ]
    in
    let trees : Decides (laws.Tree (field_count c.args.s.now) c.args.block.now) c.if-area_in_order-2.value =
    elim c.if-area_in_order-2.branch [
      | then-area_in_order-2 w ↦ both_asked areas w.if-area_in_order-2.true w.one_tree.ensures w.value-is
      | else-area_in_order-2 w ↦ first_refused areas w.if-area_in_order-2.false w.value-is
    ]
    in
    let counts : Decides (laws.Counted (field_count c.args.s.now) c.args.block.now) c.if-one_tree.value =
    elim c.if-one_tree.branch [
      | then-one_tree w ↦ both_asked trees w.if-one_tree.true w.frames_add_up.ensures w.value-is
      | else-one_tree w ↦ first_refused trees w.if-one_tree.false w.value-is
    ]
    in
    laws.threads_refused counts c.if-frames_add_up.false
