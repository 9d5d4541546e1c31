use Rattle.std.proofs.Common.{inl, inr}
use mathlib.Core.Path.{◌∙◌}
use borrow.Author.Tests.{ne_eqb}
use Rattle.turns.proofs.TurnLaws.{own_not, own_hidden, own_same}
use Rattle.turns.proofs.is_own.Goals as goal
use Rattle.turns.proofs.is_own.Goals.{then-t-eq-NAME, else-t-eq-NAME}

pub returns-then-visible : goal.returns-then-visible
returns-then-visible c =
    own_same _ _ _ _ _ c.if-visible.true.0 c.if-visible.true.1 c.is_name.ensures

pub returns-else-visible : goal.returns-else-visible
returns-else-visible c =
    elim c.if-t-eq-NAME.branch [
      | then-t-eq-NAME w ↦ elim c.if-visible.either [ inl h ↦ w.t-6-is ∙ h.1 ∙ own_hidden _ _ _ _ h.0 h.1 | inr h ↦ absurd (h w.if-t-eq-NAME.true) ]
      | else-t-eq-NAME w ↦ w.t-6-is ∙ ne_eqb _ _ w.if-t-eq-NAME.false ∙ own_not _ _ _ _ w.if-t-eq-NAME.false
    ]
