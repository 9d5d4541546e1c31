use native.Mathlib.Omega.{arith}
use Rattle.frames.proofs.StepLaws as laws
use Rattle.frames.proofs.frames.cast_waits.Goals as goal

pub returns-then-count_of-n : goal.returns-then-count_of-n
returns-then-count_of-n c =
    laws.casts_outside _ _ (omega arith)

pub returns-in_default : goal.returns-in_default
returns-in_default c =
    laws.casts_other _ _ (omega arith) _ c.kind_at.ensures c.in_default.not-Cast

pub returns : goal.returns
returns c =
    laws.casts_waits _ _ (omega arith) _ c.kind_at.ensures c.in-Cast.is _ c.node_word-t.ensures.0
