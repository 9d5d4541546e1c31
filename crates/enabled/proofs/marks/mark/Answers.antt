use mathlib.Core.Path.{◌∙◌}
use native.Mathlib.Omega.{arith}
use Rattle.enabled.proofs.MarkLaws.{byte_is, mark_none, mark_more, mark_all}
use Rattle.enabled.proofs.marks.mark.Goals as goal

pub loop-n-init : goal.loop-n-init
loop-n-init c =
    mark_none c.requires.2

pub bounds-flags-n : goal.bounds-flags-n
bounds-flags-n c =
    omega (arith, c.loop-n.invariant.long)

pub loop-n-preserved : goal.loop-n-preserved
loop-n-preserved c =
    mark_more c.loop-n.invariant (omega arith) c.can_move.ensures (c.from.ensures ∙ byte_is c.can_move.result)

pub shape_of-flags : goal.shape_of-flags
shape_of-flags c =
    omega (arith, c.loop-n.invariant.long, c.requires.2)

pub returns : goal.returns
returns c =
    mark_all c.loop-n.invariant (omega arith)
