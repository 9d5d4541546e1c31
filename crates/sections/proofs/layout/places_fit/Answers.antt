use Rattle.sections.proofs.CodeLaws.{places_all, places_no, places_yes, places_end}
use Rattle.sections.proofs.layout.places_fit.Goals as goal

pub loop-k-init : goal.loop-k-init
loop-k-init c =
    places_all _

pub returns-then-body_at-at : goal.returns-then-body_at-at
returns-then-body_at-at c =
    places_no _ _ _ _ _ c.loop-k-test.true c.loop-k.invariant c.body_at.ensures.0 c.if-body_at-at.true

pub loop-k-preserved : goal.loop-k-preserved
loop-k-preserved c =
    places_yes _ _ _ _ _ c.loop-k-test.true c.loop-k.invariant c.body_at.ensures.0 _ c.if-body_at-at.false c.end_of-at.ensures

pub returns : goal.returns
returns c =
    places_end _ _ _ c.loop-k-test.false c.loop-k.invariant
