use Rattle.state.proofs.Seeing.{seen_length}
use Rattle.moves.proofs.Laws as laws
use Rattle.moves.specs.Performs.{performs_full, performs_moved}
use Rattle.control.proofs.control.leave_frame.Goals as goal

pub returns-then-count-ge-FRAMES : goal.returns-then-count-ge-FRAMES
returns-then-count-ge-FRAMES c =
    λ x st a₀ fs s. rw (laws.no_room c.count.ensures.0 c.if-count-ge-FRAMES.true) performs_full

pub returns : goal.returns
returns c =
    λ x st a₀ fs s. rw (laws.some_room c.count.ensures.0 c.if-count-ge-FRAMES.false) (performs_moved (c.push.ensures x st a₀ _ fs s))
