use native.Mathlib.Omega.{arith}
use mathlib.Core.Path.{refl, ap, ◌∙◌}
use Rattle.machine.specs.Config.{running}
use Rattle.locking.specs.Entered.{entered}
use Rattle.moves.proofs.Laws.{performs_as}
use Rattle.moves.specs.Performs.{performs_still, performs_moved}
use Rattle.locking.proofs.locking.enter_lock.Goals as goal

pub shut_object-requires : goal.shut_object-requires
shut_object-requires c =
    (c.requires.0, c.lock_access.ensures.by_index _ c.in-Open.is)

pub set_cell-requires : goal.set_cell-requires
set_cell-requires c =
    (c.requires.0, omega arith)

pub returns-in-Stays : goal.returns-in-Stays
returns-in-Stays c =
    λ c₀ p rest a₀ fs h. performs_as ((c.lock_access.ensures.x_value c₀ p rest a₀ _ _ fs h) ∙ ap (entered c₀.stores fs _ _ _) c.in-Stays.is) performs_still

pub returns-in-Null : goal.returns-in-Null
returns-in-Null c =
    λ c₀ p rest a₀ fs h. performs_as ((c.lock_access.ensures.x_value c₀ p rest a₀ _ _ fs h) ∙ ap (entered c₀.stores fs _ _ _) c.in-Null.is) (c.fails.ensures rest c₀.stores _ h.seen)

pub returns-in-Open : goal.returns-in-Open
returns-in-Open c =
    λ c₀ p rest a₀ fs h. performs_as ((c.lock_access.ensures.x_value c₀ p rest a₀ _ _ fs h) ∙ ap (entered c₀.stores fs _ _ _) c.in-Open.is) (c.shut_object.ensures rest c₀.stores a₀ fs h.seen)

pub returns-in-Held : goal.returns-in-Held
returns-in-Held c =
    λ c₀ p rest a₀ fs h. performs_as ((c.lock_access.ensures.x_value c₀ p rest a₀ _ _ fs h) ∙ ap (entered c₀.stores fs _ _ _) c.in-Held.is) (performs_moved (c.set_cell.ensures rest c₀.stores (running a₀ _ fs) (running _ _ fs) refl refl refl refl h.seen))
