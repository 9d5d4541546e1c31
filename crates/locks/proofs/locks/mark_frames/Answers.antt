use native.Mathlib.Omega.{arith}
use Rattle.locks.proofs.MarkLaws.{marking_no, marking_yes, marking_done}
use mathlib.Core.Path.{ap}
use mathlib.Core.Bool.{not}
use Rattle.locks.proofs.locks.mark_frames.Goals as goal

pub loop-i-init : goal.loop-i-init
loop-i-init c =
    (omega arith, c.requires.1)

pub mark_frame-requires : goal.mark_frame-requires
mark_frame-requires c =
    (c.requires.0, omega (arith, c.count-count.ensures.0), c.loop-i.invariant.1)

pub returns-then-not-mark_frame : goal.returns-then-not-mark_frame
returns-then-not-mark_frame c =
    marking_no c.mark_frame.ensures (ap not c.if-not-mark_frame.true) _ (omega (arith, c.count-count.ensures.0))

pub loop-i-preserved : goal.loop-i-preserved
loop-i-preserved c =
    (omega arith, marking_yes c.mark_frame.ensures (ap not c.if-not-mark_frame.false))

pub returns : goal.returns
returns c =
    marking_done c.loop-i.invariant.1 (omega (arith, c.count-count.ensures.0))
