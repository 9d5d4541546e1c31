use mathlib.Core.Path.{refl}
use Rattle.machine.specs.Config.{returning}
use Rattle.block.specs.declared.Area.TheVariants.{Objects}
use Rattle.state.proofs.Seeing.{some_state, seen_length, seen_few}
use Rattle.moves.proofs.FrameLaws.{still_waiting}
use Rattle.moves.specs.Performs.{performs_moved}
use Rattle.waiting.proofs.waiting.open_lock.Goals as goal

pub open_object-requires : goal.open_object-requires
open_object-requires c =
    seen_few c.requires.here.seen Objects

pub pop-requires : goal.pop-requires
pop-requires c =
    let now = c.open_object.ensures _ _ _ _ c.requires.here.seen in
    (some_state now, still_waiting c.requires.here.seen now c.requires.waiting, c.requires.word)

pub returns : goal.returns
returns c =
    λ rest st fs s. performs_moved (c.pop.ensures rest _ _ _ fs (returning _ fs) refl refl refl (c.open_object.ensures _ _ _ _ s))
