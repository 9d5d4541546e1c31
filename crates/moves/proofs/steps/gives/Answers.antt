use mathlib.Core.Path.{refl}
use Rattle.machine.specs.Config.{running, returning}
use Rattle.moves.specs.Performs.{performs_moved}
use Rattle.moves.proofs.steps.gives.Goals as goal

pub returns : goal.returns
returns c =
    λ b x st a e fs seen. performs_moved (c.set_cell.ensures x st (running a e fs) (returning _ fs) refl refl refl refl seen)
