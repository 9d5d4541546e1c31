use Rattle.records.proofs.UseLaws.{adds_parts}
use Rattle.records.proofs.nodes.count_parts.Goals as goal

pub returns : goal.returns
returns c =
    adds_parts _ _ _ _ _ _ _ _ _ _ c.shape_at-a.ensures c.record_word.ensures.0 c.record_word-2.ensures.0 c.record_word-3.ensures.0 c.count_word.ensures c.count_word-2.ensures c.count_word-3.ensures
