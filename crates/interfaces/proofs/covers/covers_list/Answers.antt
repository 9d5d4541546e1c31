use borrow.Author.Count.{below_more}
use borrow.Author.Tests.{not-true, not-false}
use Rattle.script.specs.declared.Section.TheVariants.{Signatures as signatures}
use native.Mathlib.Omega.{arith}
use Rattle.script.proofs.Tests.{says_yes}
use Rattle.members.proofs.LookupLaws.{own_ends, own_small}
use Rattle.interfaces.proofs.CoverLaws.{list_no, list_yes}
use mathlib.Core.Path.{ap}
use mathlib.Core.Bool.{not}
use Rattle.interfaces.proofs.covers.covers_list.Goals as goal

pub overflow_add-end : goal.overflow_add-end
overflow_add-end c =
    omega (arith, own_small c.args.script.now.within_layout signatures _ c.requires.1 _ _ c.first_of-from.ensures c.own_count.ensures.0)

pub loop-j-init : goal.loop-j-init
loop-j-init c =
    (omega arith, λ k h l. absurd (omega arith))

pub defines-requires : goal.defines-requires
defines-requires c =
    (c.requires.0, omega (arith, own_ends c.args.script.now.within_layout signatures _ c.requires.1 _ _ c.first_of-from.ensures c.own_count.ensures.0, c.loop-j-test.true))

pub returns-then-not-defines : goal.returns-then-not-defines
returns-then-not-defines c =
    list_no _ _ _ c.requires.1 c.requires.2 _ _ c.first_of-from.ensures c.own_count.ensures.0 _ _ c.loop-j.invariant.0 c.loop-j-test.true c.defines.ensures (not-true _ (ap not c.if-not-defines.true))

pub loop-j-preserved : goal.loop-j-preserved
loop-j-preserved c =
    (omega arith, below_more _ _ c.loop-j.invariant.1 (λ l. says_yes c.defines.ensures (not-false _ (ap not c.if-not-defines.false))))

pub returns : goal.returns
returns c =
    list_yes _ _ _ c.requires.1 c.requires.2 _ _ c.first_of-from.ensures c.own_count.ensures.0 _ c.loop-j-test.false c.loop-j.invariant.1
