use Rattle.records.proofs.UseLaws.{adds_word}
use Rattle.records.proofs.nodes.count_word.Goals as goal

pub returns-in-Expression : goal.returns-in-Expression
returns-in-Expression c =
    adds_word _ _ _ _ _ c.in-Expression.is c.count_use.ensures
