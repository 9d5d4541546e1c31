use borrow.Author.Count.{below_more}
use borrow.Author.Tests.{not-false}
use native.Mathlib.Omega.{arith}
use Rattle.script.proofs.Tests.{true_false}
use Rattle.interfaces.proofs.ClashLaws.{unclashed}
use mathlib.Core.Path.{ap}
use mathlib.Core.Bool.{not}
use Rattle.interfaces.proofs.clashes.clashes.Goals as goal

pub loop-j-init : goal.loop-j-init
loop-j-init c =
    (omega arith, λ k h l. absurd (omega arith))

pub agrees-requires : goal.agrees-requires
agrees-requires c =
    omega arith

pub returns-then-not-agrees : goal.returns-then-not-agrees
returns-then-not-agrees c =
    λ e. absurd (true_false e)

pub loop-j-preserved : goal.loop-j-preserved
loop-j-preserved c =
    (omega arith, below_more _ _ c.loop-j.invariant.1 (λ l. c.agrees.ensures (not-false _ (ap not c.if-not-agrees.false))))

pub returns : goal.returns
returns c =
    λ e. unclashed _ _ _ _ _ _ c.record_word-name.ensures.0 c.types_at-types.ensures c.count_of-n.ensures.0 c.loop-j-test.false c.loop-j.invariant.1
