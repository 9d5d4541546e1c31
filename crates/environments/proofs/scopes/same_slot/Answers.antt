use mathlib.Core.Path.{sym}
use borrow.Author.Tests.{eqb-true}
use Rattle.script.proofs.Tests.{true_false}
use Rattle.environments.proofs.ScopeLaws as laws
use Rattle.environments.proofs.scopes.same_slot.Goals as goal

pub returns-then-x-y : goal.returns-then-x-y
returns-then-x-y c =
    λ e. absurd (true_false (sym e))

pub returns : goal.returns
returns c =
    λ e. laws.slot_same _ _ _ _ _ _ _ c.word-x.ensures.0 c.word-y.ensures.0 c.if-x-y.false c.word-t.ensures.0 c.word-u.ensures.0 (eqb-true _ _ e)
