use mathlib.Core.Path.{sym, ◌∙◌}
use Rattle.moves.proofs.Laws as laws
use Rattle.moves.specs.Performs.{performs_still}
use Rattle.moves.proofs.values.give_value.Goals as goal

pub returns-in_default : goal.returns-in_default
returns-in_default c =
    λ rest st a fs s. laws.performs_as (laws.gives_not fs _ _ _ s c.variable.ensures c.in_default.is) performs_still

pub gives-requires : goal.gives-requires
gives-requires c =
    (c.requires.0, c.requires.2 c.args.x _ (sym c.variable.ensures ∙ c.in-Some.is))

pub returns : goal.returns
returns c =
    λ rest st a fs s. laws.performs_as (laws.gives fs _ _ _ s c.variable.ensures _ c.in-Some.is) (c.gives.ensures _ rest st a _ fs s)
