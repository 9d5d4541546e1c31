use borrow.Author.Tests.{not-true, not-false}
use Rattle.interfaces.proofs.AgreementLaws.{passed_more, fault_here, fault_nowhere}
use Rattle.members.specs.Lookup.{join_by}
use native.Mathlib.Omega.{arith}
use mathlib.Core.Path.{ap}
use mathlib.Core.Bool.{not}
use Rattle.interfaces.proofs.agreement.lowest_join.Goals as goal

pub loop-i-init : goal.loop-i-init
loop-i-init c =
    (omega arith, λ m h j l. absurd (omega arith))

pub join_agrees-requires : goal.join_agrees-requires
join_agrees-requires c =
    (c.requires.0, omega arith)

pub returns-then-not-join_agrees : goal.returns-then-not-join_agrees
returns-then-not-join_agrees c =
    λ m h. fault_here (join_by _ m) _ _ (c.loop-i.invariant.1 m h) _ c.loop-i-test.true (c.join_agrees.ensures m h) (not-true _ (ap not c.if-not-join_agrees.true))

pub loop-i-preserved : goal.loop-i-preserved
loop-i-preserved c =
    (omega arith, λ m h. passed_more (join_by _ m) 0 _ (c.loop-i.invariant.1 m h) _ (c.join_agrees.ensures m h) (not-false _ (ap not c.if-not-join_agrees.false)))

pub returns : goal.returns
returns c =
    λ m h. fault_nowhere (join_by _ m) _ _ (c.loop-i.invariant.1 m h) c.loop-i-test.false
