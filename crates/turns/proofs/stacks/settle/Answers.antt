use Rattle.turns.proofs.StackLaws.{settled_in}
use Rattle.turns.proofs.stacks.settle.Goals as goal

pub returns : goal.returns
returns c =
    settled_in _ _ _ _ c.if-d-eq0.false c.if-count-d.false
