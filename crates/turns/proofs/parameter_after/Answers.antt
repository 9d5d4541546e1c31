use native.Mathlib.Omega.{arith}
use borrow.Author.Rules.{rules}
use Rattle.turns.proofs.TurnLaws.{bound_here, left_none}
use Rattle.turns.proofs.parameter_after.Goals as goal

pub returns-in-3 : goal.returns-in-3
returns-in-3 c =
    bound_here _ _ _ _ _ c.in-3.is c.requires.0 (search rules)

pub returns-in-5 : goal.returns-in-5
returns-in-5 c =
    left_none _ _ _ _ _ (λ h. absurd (omega arith)) c.in-5.is
