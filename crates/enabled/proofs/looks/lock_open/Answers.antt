use mathlib.Core.Path.{ap, ◌∙◌}
use mathlib.Core.Bool.{not}
use Rattle.enabled.proofs.LookLaws.{lock_stays, lock_able}
use Rattle.enabled.proofs.looks.lock_open.Goals as goal
use Rattle.enabled.proofs.looks.lock_open.Goals.{in-Stays, in_default}

pub returns : goal.returns
returns c =
    λ d p rest a₀ a k fs h.
    let due = c.lock_access.ensures.x_value d p rest a₀ a k fs h in
    elim c.match-matches.branch [
      | in-Stays w ↦ ap not w.matches-is ∙ lock_stays d.stores fs a _ k due w.in-Stays.is
      | in_default w ↦ ap not w.matches-is ∙ lock_able d.stores fs a _ k due w.in_default.not-Stays
    ]
