use native.Mathlib.Omega.{arith}
use Rattle.block.specs.declared.Area.TheVariants.{Positions}
use Rattle.values.proofs.StoreLaws.{all_done}
use Rattle.locks.proofs.MarkLaws.{positions_begun, position_failed, position_more}
use Rattle.locks.proofs.locks.none_failed.Goals as goal

pub loop-i-init : goal.loop-i-init
loop-i-init c =
    (omega arith, positions_begun _ _ c.count-count.ensures.0)

pub word-requires : goal.word-requires
word-requires c =
    (omega (arith, c.count-count.ensures.0, c.requires.few Positions), omega arith)

pub returns-then-word-eq-FAILED : goal.returns-then-word-eq-FAILED
returns-then-word-eq-FAILED c =
    position_failed _ _ _ c.loop-i.invariant.1 _ (omega arith) c.word.ensures.0 (omega (arith, c.if-word-eq-FAILED.true))

pub loop-i-preserved : goal.loop-i-preserved
loop-i-preserved c =
    (omega arith, position_more _ _ _ c.loop-i.invariant.1 _ (omega arith) c.word.ensures.0 (λ z. omega (arith, c.if-word-eq-FAILED.false, z)))

pub returns : goal.returns
returns c =
    all_done _ _ _ _ _ c.loop-i.invariant.1 (omega arith)
