use native.Mathlib.Omega.{arith}
use Rattle.state.proofs.Taking.{running_said, returning_said, join_said, failed_said}
use Rattle.state.proofs.whole.cell_of.Goals as goal

pub returns-in-1 : goal.returns-in-1
returns-in-1 c =
    running_said _ _ _ c.args.value c.in-1.is

pub returns-in-2 : goal.returns-in-2
returns-in-2 c =
    returning_said _ _ _ c.args.value c.in-2.is

pub returns-in-4 : goal.returns-in-4
returns-in-4 c =
    join_said _ _ _ c.args.value c.in-4.is

pub returns-in_default : goal.returns-in_default
returns-in_default c =
    failed_said c.args.kind _ _ c.args.value (λ h. omega (arith, h)) (λ h. omega (arith, h)) (λ h. omega (arith, h))
