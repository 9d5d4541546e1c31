use mathlib.Core.Path.{refl}
use Rattle.machine.specs.Config.{returning}
use Rattle.moves.specs.Performs.{performs_moved}
use Rattle.waiting.proofs.waiting.drop_cast.Goals as goal

pub returns : goal.returns
returns c =
    λ rest st n fs s. performs_moved (c.pop.ensures rest st _ _ fs (returning _ fs) refl refl refl s)
