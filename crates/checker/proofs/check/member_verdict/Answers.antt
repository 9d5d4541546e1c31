use Rattle.typing.proofs.Exact.{joins_lowest, one_meaning}
use Rattle.inference.proofs.InferLaws.{exit}
use Rattle.checker.proofs.CheckLaws.{found, says_none, goes_on, stops, each_of}
use Rattle.checker.proofs.StageLaws.{ask_joins, then_walk}
use Rattle.checker.proofs.check.member_verdict.Goals as goal

pub returns-in_err-ask-clause-value : goal.returns-in_err-ask-clause-value
returns-in_err-ask-clause-value c =
    rw (exit _ c.from_residual.ensures.1) (stops _ (ask_joins _) (found c.check_joins.ensures c.ask.ensures) c.in_err-ask.was)

pub returns-in_err-ask-2-clause-value : goal.returns-in_err-ask-2-clause-value
returns-in_err-ask-2-clause-value c =
    rw (exit _ c.from_residual-in_err-ask-2.ensures.1) (stops _ (goes_on (ask_joins _) (found c.check_joins.ensures c.ask.ensures) c.in_ok-ask.was) (found c.check_classes.ensures c.ask-2.ensures) c.in_err-ask-2.was)

pub check_classes-requires : goal.check_classes-requires
check_classes-requires c =
    one_meaning _ c.requires.0 (each_of (joins_lowest _ c.requires.0) (says_none _ (found c.check_joins.ensures c.ask.ensures) c.in_ok-ask.was))

pub returns-clause-value : goal.returns-clause-value
returns-clause-value c =
    then_walk _ (goes_on (goes_on (ask_joins _) (found c.check_joins.ensures c.ask.ensures) c.in_ok-ask.was) (found c.check_classes.ensures c.ask-2.ensures) c.in_ok-ask-2.was) _ c.walk_verdict.ensures.value
