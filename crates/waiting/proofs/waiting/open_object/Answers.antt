use native.Mathlib.Omega.{arith}
use mathlib.Core.Bool.{false}
use Rattle.moves.proofs.Shutting.{shut_changes}
use Rattle.waiting.proofs.WaitingLaws.{opens_none}
use Rattle.waiting.proofs.waiting.open_object.Goals as goal

pub returns-else-n-count : goal.returns-else-n-count
returns-else-n-count c =
    λ i rest st u s. opens_none s _ _ c.count.ensures.0 c.if-n-count.false

pub returns-then-n-count : goal.returns-then-n-count
returns-then-n-count c =
    λ i rest st u s. shut_changes _ false s (omega (arith, c.count.ensures.0, c.if-n-count.true)) c.set_shut.ensures
