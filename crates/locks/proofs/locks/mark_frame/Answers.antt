use native.Mathlib.Omega.{arith}
use Rattle.block.specs.declared.Area.TheVariants.{Objects, Frames}
use Rattle.locks.proofs.MarkLaws.{frame_other, frame_absent, frame_taken, frame_marked}
use mathlib.Core.Path.{refl}
use Rattle.locks.proofs.locks.mark_frame.Goals as goal

pub word-kind-requires : goal.word-kind-requires
word-kind-requires c =
    (omega (arith, c.requires.0.few Frames), omega arith)

pub returns-then-kind-ne-LOCKS : goal.returns-then-kind-ne-LOCKS
returns-then-kind-ne-LOCKS c =
    frame_other c.requires.2 _ c.word-kind.ensures.0 c.if-kind-ne-LOCKS.true

pub word-o-requires : goal.word-o-requires
word-o-requires c =
    (omega (arith, c.requires.0.few Frames), omega arith)

pub returns-then-count-o : goal.returns-then-count-o
returns-then-count-o c =
    frame_absent c.requires.2 _ c.word-kind.ensures.0 (omega arith) _ c.word-o.ensures.0 (omega (arith, c.count.ensures.0))

pub word-shut-requires : goal.word-shut-requires
word-shut-requires c =
    (omega (arith, c.count.ensures.0, c.requires.0.few Objects), omega arith)

pub bounds-marks-o : goal.bounds-marks-o
bounds-marks-o c =
    omega (arith, c.count.ensures.0, c.requires.0.few Objects, c.requires.2.size)

pub returns-then-shut-mark : goal.returns-then-shut-mark
returns-then-shut-mark c =
    frame_taken c.requires.2 _ c.word-kind.ensures.0 (omega arith) _ c.word-o.ensures.0 _ _ (omega (arith, c.count.ensures.0)) c.word-shut.ensures.0 refl (omega arith)

pub bounds-marks-o-2 : goal.bounds-marks-o-2
bounds-marks-o-2 c =
    omega (arith, c.count.ensures.0, c.requires.0.few Objects, c.requires.2.size)

pub returns : goal.returns
returns c =
    frame_marked c.requires.2 _ c.word-kind.ensures.0 (omega arith) _ c.word-o.ensures.0 _ _ (omega (arith, c.count.ensures.0)) c.word-shut.ensures.0 refl (c.requires.0.few Objects) (omega arith)
