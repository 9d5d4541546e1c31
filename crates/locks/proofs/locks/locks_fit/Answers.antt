use Rattle.locks.proofs.MarkLaws.{no_marks}
use Rattle.locks.proofs.LockLaws.{locks_no, locks_failed, locks_covered}
use mathlib.Core.Path.{ap}
use mathlib.Core.Bool.{not}
use Rattle.locks.proofs.locks.locks_fit.Goals as goal

pub mark_frames-requires : goal.mark_frames-requires
mark_frames-requires c =
    (c.requires, no_marks _)

pub returns-then-not-mark_frames : goal.returns-then-not-mark_frames
returns-then-not-mark_frames c =
    λ field_count o. locks_no field_count _ o c.mark_frames.ensures (ap not c.if-not-mark_frames.true)

pub returns-then-not-none_failed : goal.returns-then-not-none_failed
returns-then-not-none_failed c =
    λ field_count o. locks_failed field_count _ o c.mark_frames.ensures (ap not c.if-not-mark_frames.false) _ c.none_failed.ensures (ap not c.if-not-none_failed.true)

pub returns : goal.returns
returns c =
    λ field_count o. locks_covered field_count _ o c.mark_frames.ensures (ap not c.if-not-mark_frames.false) _ c.none_failed.ensures _ (ap not c.if-not-none_failed.false) c.shut_are_marked.ensures
