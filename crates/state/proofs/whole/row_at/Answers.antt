use native.Mathlib.Omega.{arith}
use mathlib.Core.Path.{refl, ◌∙◌}
use Rattle.state.proofs.Putting.{row_past, row_there}
use Rattle.state.proofs.whole.row_at.Goals as goal

pub returns-then-len-i : goal.returns-then-len-i
returns-then-len-i c =
    (refl, λ self ts bounded is e x. row_past self bounded ts is _ (omega (arith, c.if-len-i.true, e)))

pub returns : goal.returns
returns c =
    (c.row_of.ensures.0, λ self ts bounded is e x. row_there self bounded ts is _ _ (omega (arith, c.if-len-i.false, e)) (λ u k. c.row_of.ensures.1 u (x ∙ k)))
