use Rattle.turns.proofs.StackLaws.{replaced_in}
use Rattle.turns.proofs.stacks.replace_last.Goals as goal

pub returns-then-count-ne0 : goal.returns-then-count-ne0
returns-then-count-ne0 c =
    replaced_in _ _ _ c.if-before-ne0.true c.if-count-ne0.true
