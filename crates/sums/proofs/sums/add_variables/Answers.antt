use Rattle.moves.proofs.Laws.{performs_as}
use Rattle.sums.proofs.SumLaws as laws
use Rattle.moves.specs.Performs.{performs_still}
use Rattle.sums.proofs.sums.add_variables.Goals as goal

pub returns-in_default : goal.returns-in_default
returns-in_default c =
    λ rest st a fs s. performs_as (laws.first_missing st fs _ _ _ (laws.addend_read _ _ _ s c.addend_of.ensures) c.in_default.is) performs_still

pub returns-in_default-addend_of : goal.returns-in_default-addend_of
returns-in_default-addend_of c =
    λ rest st a fs s. performs_as (laws.second_missing st fs _ _ _ (laws.addend_read _ _ _ s c.addend_of-2.ensures) c.in_default-addend_of.is) performs_still

pub returns-in_default-sum_of : goal.returns-in_default-sum_of
returns-in_default-sum_of c =
    λ rest st a fs s. performs_as (laws.sum_fails st fs _ _ _ (laws.addend_read _ _ _ s c.addend_of.ensures) (laws.addend_read _ _ _ s c.addend_of-2.ensures) c.in-Some.is c.in-Some-addend_of.is (record { sfits = c.in-Some.known_told-1-own.given.0.1 }) (record { sfits = c.in-Some-addend_of.known_told-in-Some-addend_of-2-1-own.given.0.1 }) c.sum_of.ensures c.in_default-sum_of.is) (c.fails.ensures rest st _ s)

pub returns : goal.returns
returns c =
    λ rest st a fs s. performs_as (laws.sums st fs _ _ _ (laws.addend_read _ _ _ s c.addend_of.ensures) (laws.addend_read _ _ _ s c.addend_of-2.ensures) c.in-Some.is c.in-Some-addend_of.is (record { sfits = c.in-Some.known_told-1-own.given.0.1 }) (record { sfits = c.in-Some-addend_of.known_told-in-Some-addend_of-2-1-own.given.0.1 }) c.sum_of.ensures (record { sfits = c.in-Some-sum_of.known_told-in-Some-sum_of-1-own.given.0.1 }) c.in-Some-sum_of.is) (c.gives.ensures _ rest st a _ fs s)
