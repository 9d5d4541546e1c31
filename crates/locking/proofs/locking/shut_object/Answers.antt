use native.Mathlib.Omega.{arith}
use mathlib.Core.Bool.{true}
use Rattle.block.specs.declared.Area.TheVariants.{Objects}
use Rattle.state.proofs.Seeing.{seen_length, seen_few, some_state}
use Rattle.moves.proofs.Laws.{no_room, some_room}
use Rattle.moves.proofs.Shutting.{shut_changes}
use Rattle.locking.proofs.LockLaws as laws
use Rattle.moves.specs.Performs.{performs_full, performs_moved}
use Rattle.locking.proofs.locking.shut_object.Goals as goal

pub returns-then-count-ge-FRAMES : goal.returns-then-count-ge-FRAMES
returns-then-count-ge-FRAMES c =
    λ x st a₀ fs s. rw (no_room c.count.ensures.0 c.if-count-ge-FRAMES.true) performs_full

pub set_shut-requires : goal.set_shut-requires
set_shut-requires c =
    omega (arith, c.requires.1, seen_few c.requires.0.seen Objects)

pub push-requires : goal.push-requires
push-requires c =
    let shut = shut_changes _ true c.requires.0.seen c.requires.1 c.set_shut.ensures in
    (some_state shut, omega (arith, laws.frames_kept c.requires.0.seen shut, c.count.ensures.0))

pub returns : goal.returns
returns c =
    λ x st a₀ fs s.
    rw (some_room c.count.ensures.0 c.if-count-ge-FRAMES.false)
    (performs_moved (c.push.ensures x _ a₀ _ fs (shut_changes _ true s c.requires.1 c.set_shut.ensures)))
