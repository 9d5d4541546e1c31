use native.Mathlib.Omega.{arith}
use Rattle.one_tree.proofs.TreeLaws as laws
use Rattle.one_tree.proofs.trees.one_tree.Goals as goal

pub loop-i-init : goal.loop-i-init
loop-i-init c =
    laws.begun _ _ c.count-n.ensures.0

pub returns-then-trees-eq0 : goal.returns-then-trees-eq0
returns-then-trees-eq0 c =
    laws.too_few c.loop-i.invariant (omega arith) c.if-trees-eq0.true

pub word-kind-requires : goal.word-kind-requires
word-kind-requires c =
    (omega (arith, c.count-n.ensures.0, c.requires), omega arith)

pub after-trees-requires : goal.after-trees-requires
after-trees-requires c =
    (omega arith, omega (arith, c.loop-i.invariant.few, c.count-n.ensures.1))

pub loop-i-preserved : goal.loop-i-preserved
loop-i-preserved c =
    laws.onward c.loop-i.invariant _ _ (omega arith) c.if-trees-eq0.false c.word-kind.ensures.0 c.after-trees.ensures.0 c.after-trees.ensures.1

pub returns : goal.returns
returns c =
    laws.ended c.loop-i.invariant (omega arith)
