use borrow.Author.Tests.{not-true, not-false}
use native.Mathlib.Omega.{arith}
use Rattle.sections.proofs.Search.{search_start, search_pass, found_end, found_fail, lowest_here, lowest_none}
use Rattle.typing.specs.Check.{classes_test}
use Rattle.subtypes.proofs.SubtypeLaws.{laid}
use Rattle.interfaces.proofs.CoverLaws.{class_test_lem, covers_test}
use mathlib.Core.Path.{ap}
use mathlib.Core.Bool.{not}
use Rattle.interfaces.proofs.covers.check_classes.Goals as goal

pub loop-c-init : goal.loop-c-init
loop-c-init c =
    search_start (covers_test c.args.script.now.bytes.now) _

pub implements-requires : goal.implements-requires
implements-requires c =
    omega (arith, c.count_of-n.ensures.0, c.loop-c-test.true)

pub record_at-requires : goal.record_at-requires
record_at-requires c =
    (laid c.args.script.now.within_layout, omega (arith, c.count_of-n.ensures.0, c.loop-c-test.true))

pub returns-then-not-implements : goal.returns-then-not-implements
unfolding classes_test
returns-then-not-implements c =
    lowest_here _ _ _ _ _ (found_fail (covers_test c.args.script.now.bytes.now) _ _ _ c.loop-c.invariant (omega (arith, c.count_of-n.ensures.0, c.loop-c-test.true)) (class_test_lem c.args.script.now.within_layout c.requires _ _ _ (omega (arith, c.count_of-n.ensures.0, c.loop-c-test.true)) c.implements.ensures (not-true _ (ap not c.if-not-implements.true)))) c.record_at.ensures.0

pub loop-c-preserved : goal.loop-c-preserved
loop-c-preserved c =
    search_pass (covers_test c.args.script.now.bytes.now) _ _ _ c.loop-c.invariant (omega (arith, c.count_of-n.ensures.0, c.loop-c-test.true)) (class_test_lem c.args.script.now.within_layout c.requires _ _ _ (omega (arith, c.count_of-n.ensures.0, c.loop-c-test.true)) c.implements.ensures (not-false _ (ap not c.if-not-implements.false)))

pub returns : goal.returns
unfolding classes_test
returns c =
    lowest_none _ _ _ (found_end (covers_test c.args.script.now.bytes.now) _ _ _ c.loop-c.invariant (omega (arith, c.count_of-n.ensures.0, c.loop-c-test.false)))
