use Rattle.moves.specs.Performs.{performs_moved}
use Rattle.moves.proofs.steps.fails.Goals as goal

pub returns : goal.returns
returns c =
    λ x st u seen. performs_moved (c.fail.ensures x st u seen)
