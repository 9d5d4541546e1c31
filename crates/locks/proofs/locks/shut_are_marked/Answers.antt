use native.Mathlib.Omega.{arith}
use mathlib.Core.Path.{refl}
use Rattle.block.specs.declared.Area.TheVariants.{Objects}
use Rattle.locks.proofs.MarkLaws.{marks_begun, object_unmarked, object_marked, objects_done}
use Rattle.locks.proofs.locks.shut_are_marked.Goals as goal

pub loop-o-init : goal.loop-o-init
loop-o-init c =
    (omega (arith, c.count-count.ensures.0), marks_begun _ c.args.marks.now _ c.count-count.ensures.0)

pub offset_bounds-marks-o : goal.offset_bounds-marks-o
offset_bounds-marks-o c =
    omega (arith, c.requires.0.few Objects)

pub bounds-marks-o : goal.bounds-marks-o
bounds-marks-o c =
    omega (arith, c.requires.0.few Objects)

pub word-requires : goal.word-requires
word-requires c =
    (omega (arith, c.requires.0.few Objects), omega arith)

pub returns-then-marks-o : goal.returns-then-marks-o
returns-then-marks-o c =
    object_unmarked _ c.args.marks.now _ c.loop-o.invariant.1 _ _ (omega arith) c.loop-o.invariant.0 refl c.word.ensures.0 (omega arith)

pub loop-o-preserved : goal.loop-o-preserved
loop-o-preserved c =
    (omega arith, object_marked _ c.args.marks.now _ c.loop-o.invariant.1 _ _ (omega arith) c.loop-o.invariant.0 refl c.word.ensures.0 (omega arith))

pub returns : goal.returns
returns c =
    objects_done _ c.args.marks.now c.loop-o.o c.loop-o.invariant.1 (omega arith)
