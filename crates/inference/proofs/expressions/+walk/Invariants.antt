use Prim.Native.Nat.{◌+◌, ◌*◌, ◌-◌}
use Rattle.script.specs.declared.Section.TheVariants.{Nodes as nodes}
use Rattle.script.specs.Section.{count_of}
use Rattle.inference.proofs.expressions.+walk.Given as goal

abbrev pub decreases-check : goal.decreases-check
decreases-check l = 4 * (count_of l.code.now.script.bytes.now nodes - l.n) + 2

abbrev pub decreases-check_part : goal.decreases-check_part
decreases-check_part l = 4 * (count_of l.code.now.script.bytes.now nodes - l.n) + 3

abbrev pub decreases-infer : goal.decreases-infer
decreases-infer l = 4 * (count_of l.code.now.script.bytes.now nodes - l.n) + 1

abbrev pub decreases-infer_call : goal.decreases-infer_call
decreases-infer_call l = 4 * (count_of l.code.now.script.bytes.now nodes - l.n)

abbrev pub decreases-infer_cast : goal.decreases-infer_cast
decreases-infer_cast l = 4 * (count_of l.code.now.script.bytes.now nodes - l.n)

abbrev pub decreases-infer_fork : goal.decreases-infer_fork
decreases-infer_fork l = 4 * (count_of l.code.now.script.bytes.now nodes - l.n)

abbrev pub decreases-infer_let : goal.decreases-infer_let
decreases-infer_let l = 4 * (count_of l.code.now.script.bytes.now nodes - l.n)

abbrev pub decreases-infer_lock : goal.decreases-infer_lock
decreases-infer_lock l = 4 * (count_of l.code.now.script.bytes.now nodes - l.n)

abbrev pub decreases-infer_update : goal.decreases-infer_update
decreases-infer_update l = 4 * (count_of l.code.now.script.bytes.now nodes - l.n)

abbrev pub decreases-infer_type : goal.decreases-infer_type
decreases-infer_type l = 4 * (count_of l.code.now.script.bytes.now nodes - l.n) + 2
