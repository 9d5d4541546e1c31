use native.Mathlib.Omega.{arith}
use Rattle.tree.proofs.Phases.{phase_by_lem, phase_finished, phase_waits}
use Rattle.tree.proofs.phase_of.Goals as goal

pub returns-in-Failed : goal.returns-in-Failed
returns-in-Failed c u h =
    phase_by_lem _ u h c.in-Failed.is

pub returns-in-Returning : goal.returns-in-Returning
returns-in-Returning c u h =
    phase_finished _ u h c.in-Returning.is (omega arith)

pub returns-in-Returning-2 : goal.returns-in-Returning-2
returns-in-Returning-2 c u h =
    phase_waits _ u h c.in-Returning.is (λ z. omega (arith, z))

pub returns-in-Running : goal.returns-in-Running
returns-in-Running c u h =
    phase_by_lem _ u h c.in-Running.is

pub returns-in-Join : goal.returns-in-Join
returns-in-Join c u h =
    phase_by_lem _ u h c.in-Join.is
