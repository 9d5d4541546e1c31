use Rattle.moves.proofs.Laws.{looked}
use Rattle.moves.proofs.TargetLaws as laws
use Rattle.moves.proofs.targets.target_of.Goals as goal

pub returns-in_err-value : goal.returns-in_err-value
returns-in_err-value c =
    λ i rest st u seen. rw c.from_residual.ensures (laws.finds_nothing seen _ _ (looked _ _ _ seen c.variable.ensures) c.in_err-value.was)

pub returns-in-Ref : goal.returns-in-Ref
returns-in-Ref c =
    λ i rest st u seen. laws.finds_absent seen _ _ (looked _ _ _ seen c.variable.ensures) _ c.in_ok-value.was _ _ c.in-Ref.is c.count.ensures.0 c.if-count-o.true

pub returns-in-Null : goal.returns-in-Null
returns-in-Null c =
    λ i rest st u seen. laws.finds_null seen _ _ (looked _ _ _ seen c.variable.ensures) _ c.in_ok-value.was c.in-Null.is

pub returns-in-Ref-2 : goal.returns-in-Ref-2
returns-in-Ref-2 c =
    λ i rest st u seen. laws.finds_object seen _ _ (looked _ _ _ seen c.variable.ensures) _ c.in_ok-value.was _ _ c.in-Ref.is c.count.ensures.0 c.if-count-o.false

pub returns-in-Int : goal.returns-in-Int
returns-in-Int c =
    λ i rest st u seen. laws.finds_number seen _ _ (looked _ _ _ seen c.variable.ensures) _ c.in_ok-value.was _ c.in-Int.is
