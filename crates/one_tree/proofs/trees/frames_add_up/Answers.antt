use native.Mathlib.Omega.{arith}
use Rattle.script.proofs.Lists.{sum_start, sum_next}
use Rattle.block.specs.declared.Area.TheVariants.{Positions}
use Rattle.block.specs.Layout.{word_in, WAITING}
use Rattle.one_tree.proofs.TreeLaws as laws
use Rattle.one_tree.proofs.trees.frames_add_up.Goals as goal

pub loop-i-init : goal.loop-i-init
loop-i-init c =
    (omega arith, sum_start _, omega arith)

pub word-requires : goal.word-requires
word-requires c =
    (omega (arith, c.count-n.ensures.0, c.requires), omega arith)

pub overflow_add-sum : goal.overflow_add-sum
overflow_add-sum c =
    omega (arith, c.word.ensures.1, c.loop-i.invariant.2, c.count-n.ensures.1)

pub loop-i-preserved : goal.loop-i-preserved
loop-i-preserved c =
    (omega arith, sum_next (λ k. word_in c.args.block.now Positions k WAITING) c.loop-i.i _ _ c.loop-i.invariant.1 c.word.ensures.0, omega (arith, c.word.ensures.1, c.loop-i.invariant.2))

pub returns : goal.returns
returns c =
    laws.sum_all_lem _ c.loop-i.i _ _ _ c.loop-i.invariant.1 (omega arith) c.count-n.ensures.0 c.count.ensures.0
