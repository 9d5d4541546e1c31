use native.Mathlib.Omega.{arith}
use Rattle.state.proofs.Seeing.{seen_length}
use Rattle.limits.specs.Limits.{THREADS}
use Rattle.moves.proofs.Laws as laws
use Rattle.moves.specs.Performs.{performs_full, performs_moved}
use Rattle.control.proofs.control.become_join.Goals as goal

pub returns-then-thread_count-ge-THREADS : goal.returns-then-thread_count-ge-THREADS
returns-then-thread_count-ge-THREADS c =
    λ d x st a₀ fs is s. rw (laws.no_room {most = THREADS} (c.thread_count.ensures.exact d is) c.if-thread_count-ge-THREADS.true) performs_full

pub fork-requires : goal.fork-requires
fork-requires c =
    (c.requires, omega (arith, c.thread_count.ensures.room))

pub returns : goal.returns
returns c =
    λ d x st a₀ fs is s. rw (laws.some_room {most = THREADS} (c.thread_count.ensures.exact d is) c.if-thread_count-ge-THREADS.false) (performs_moved (c.fork.ensures x st a₀ _ fs s))
