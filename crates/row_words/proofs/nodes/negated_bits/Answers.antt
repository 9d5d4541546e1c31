use native.Mathlib.Omega.{arith}
use Rattle.row_words.proofs.NodeLaws.{negated_bits}
use Rattle.row_words.proofs.nodes.negated_bits.Goals as goal

pub returns : goal.returns
returns c =
    negated_bits _ _ (omega arith) (omega arith) c.wrapping_neg.ensures
