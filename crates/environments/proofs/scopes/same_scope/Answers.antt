use mathlib.Core.Path.{sym}
use native.Mathlib.Omega.{arith}
use borrow.Author.Tests.{not-false}
use Rattle.script.proofs.Tests.{true_false}
use Rattle.environments.proofs.ScopeLaws as laws
use mathlib.Core.Path.{ap}
use mathlib.Core.Bool.{not}
use Rattle.environments.proofs.scopes.same_scope.Goals as goal

pub loop-i-init : goal.loop-i-init
loop-i-init c =
    laws.in_step c.requires.0 c.requires.1

pub returns-then-i-eq0 : goal.returns-then-i-eq0
returns-then-i-eq0 c =
    λ e. absurd (true_false (sym e))

pub returns-then-j-eq0 : goal.returns-then-j-eq0
returns-then-j-eq0 c =
    λ e. absurd (true_false (sym e))

pub same_slot-requires : goal.same_slot-requires
same_slot-requires c =
    (laws.place c.requires.0 c.loop-i.invariant.left c.if-i-eq0.false, laws.place c.requires.0 c.loop-i.invariant.right c.if-j-eq0.false)

pub returns-then-not-same_slot : goal.returns-then-not-same_slot
returns-then-not-same_slot c =
    λ e. absurd (true_false (sym e))

pub word-i-requires : goal.word-i-requires
word-i-requires c =
    (laws.place c.requires.0 c.loop-i.invariant.left c.if-i-eq0.false, omega arith)

pub word-j-requires : goal.word-j-requires
word-j-requires c =
    (laws.place c.requires.0 c.loop-i.invariant.right c.if-j-eq0.false, omega arith)

pub loop-i-smaller : goal.loop-i-smaller
loop-i-smaller c =
    laws.lower c.requires.0 c.loop-i.invariant.left c.if-i-eq0.false _ c.word-i.ensures.0

pub loop-i-preserved : goal.loop-i-preserved
loop-i-preserved c =
    laws.step_both c.requires.0 _ _ c.loop-i.invariant c.if-i-eq0.false c.if-j-eq0.false (c.same_slot.ensures (not-false _ (ap not c.if-not-same_slot.false))) c.word-i.ensures.0 c.word-j.ensures.0

pub returns : goal.returns
returns c =
    λ e. laws.met c.loop-i.invariant (omega arith)
