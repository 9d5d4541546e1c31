use borrow.Author.Count.{below_more}
use mathlib.Core.Path.{sym}
use native.Mathlib.Omega.{arith}
use Rattle.script.proofs.Tests.{true_false}
use Rattle.interfaces.proofs.ClashLaws.{no_clashes}
use Rattle.interfaces.proofs.clashes.no_clash.Goals as goal

pub loop-i-init : goal.loop-i-init
loop-i-init c =
    λ k h. absurd (omega arith)

pub clashes-requires : goal.clashes-requires
clashes-requires c =
    omega (arith, c.count_of-n.ensures.0)

pub returns-then-clashes : goal.returns-then-clashes
returns-then-clashes c =
    λ e. absurd (true_false (sym e))

pub loop-i-preserved : goal.loop-i-preserved
loop-i-preserved c =
    below_more _ _ c.loop-i.invariant (c.clashes.ensures c.if-clashes.false)

pub returns : goal.returns
returns c =
    λ e. no_clashes c.args.script.now.within_layout _ _ c.count_of-n.ensures.0 c.loop-i-test.false c.loop-i.invariant
