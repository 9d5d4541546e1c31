use Rattle.environments.proofs.TableLaws.{Filling}
use Rattle.environments.proofs.fill.Given as goal

abbrev pub invariant-loop-e : goal.invariant-loop-e
invariant-loop-e l = Filling l.s l.facts l.block l.initial.table l.table l.env l.e

abbrev pub decreases-loop-e : goal.decreases-loop-e
decreases-loop-e l = l.e
