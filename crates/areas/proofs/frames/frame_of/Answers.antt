use Rattle.areas.proofs.Laws.{awaits_said, casts_said, locks_said}
use Rattle.areas.proofs.frames.frame_of.Goals as goal

pub returns-then-kind-eq-AWAITS : goal.returns-then-kind-eq-AWAITS
returns-then-kind-eq-AWAITS c =
    awaits_said _ _ _ c.if-kind-eq-AWAITS.true

pub returns-then-kind-eq-CASTS : goal.returns-then-kind-eq-CASTS
returns-then-kind-eq-CASTS c =
    casts_said _ _ _ c.if-kind-eq-CASTS.true

pub returns : goal.returns
returns c =
    locks_said _ _ _ c.if-kind-eq-AWAITS.false c.if-kind-eq-CASTS.false
