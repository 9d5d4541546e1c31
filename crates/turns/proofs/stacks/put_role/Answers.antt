use native.Mathlib.Omega.{arith}
use Rattle.turns.proofs.StackLaws.{role_put}
use Rattle.turns.proofs.stacks.put_role.Goals as goal

pub returns : goal.returns
returns c =
    role_put _ _ _ _ c.args.m c.args.own _ c.settle.ensures c.replace_last.ensures c.role_of.ensures (omega (arith, c.settle.auto.roles, c.replace_last.auto.roles))
