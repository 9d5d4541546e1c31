use Rattle.moves.proofs.values.become_null.Goals as goal

pub returns : goal.returns
returns c =
    λ x st a e fs s. c.gives.ensures _ x st a e fs s
