use native.Mathlib.Omega.{arith}
use Rattle.values.proofs.StoreLaws as laws
use Rattle.values.proofs.stores.object_meets.Goals as goal

pub returns-then-count-o : goal.returns-then-count-o
returns-then-count-o c =
    laws.absent_meets c.requires _ _ (omega arith)

pub returns : goal.returns
returns c =
    laws.there_meets c.requires _ _ _ _ (omega arith) c.word-class.ensures.0 c.meets.ensures
