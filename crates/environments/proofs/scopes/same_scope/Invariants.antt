use Rattle.environments.proofs.ScopeLaws.{InStep}
use Rattle.environments.proofs.scopes.same_scope.Given as goal

abbrev pub invariant-loop-i : goal.invariant-loop-i
invariant-loop-i l = InStep l.block l.e l.f l.i l.j

abbrev pub decreases-loop-i : goal.decreases-loop-i
decreases-loop-i l = l.i
