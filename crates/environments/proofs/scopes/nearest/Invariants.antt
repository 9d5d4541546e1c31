use Rattle.environments.proofs.ChainLaws.{Walked}
use Rattle.environments.proofs.scopes.nearest.Given as goal

abbrev pub invariant-loop-e : goal.invariant-loop-e
invariant-loop-e l = Walked l.block l.env l.x l.e

abbrev pub decreases-loop-e : goal.decreases-loop-e
decreases-loop-e l = l.e
