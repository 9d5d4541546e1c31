use mathlib.Core.Path.{refl}
use Rattle.moves.proofs.Laws as laws
use Rattle.moves.specs.Performs.{performs_still, performs_moved}
use Rattle.control.proofs.control.fold_join.Goals as goal

pub returns-in-Still : goal.returns-in-Still
returns-in-Still c =
    λ x st fs a e left right s. laws.performs_as (laws.folds c.fold_at.ensures c.in-Still.is s) performs_still

pub returns-in-GoesOn : goal.returns-in-GoesOn
returns-in-GoesOn c =
    λ x st fs a e left right s.
    let empty = laws.sides_empty c.fold_at.ensures c.in-GoesOn.is s refl in
    laws.performs_as (laws.folds c.fold_at.ensures c.in-GoesOn.is s) (performs_moved (c.rejoin.ensures x st fs a e left right empty.0 empty.1 s))

pub returns-in-Fails : goal.returns-in-Fails
returns-in-Fails c =
    λ x st fs a e left right s. laws.performs_as (laws.folds c.fold_at.ensures c.in-Fails.is s) (c.fails.ensures x st _ s)
