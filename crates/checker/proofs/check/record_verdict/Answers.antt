use Rattle.script.proofs.Tests.{says_yes}
use Rattle.script.proofs.LayoutLaws.{decides_owners}
use Rattle.inference.proofs.InferLaws.{exit}
use Rattle.checker.proofs.CheckLaws.{found, found_whole, says_none, zero_yes, goes_on, stops}
use Rattle.checker.proofs.StageLaws.{ask_interfaces, then_members, within}
use Rattle.checker.proofs.check.record_verdict.Goals as goal

pub returns-in_err-ask-clause-value : goal.returns-in_err-ask-clause-value
returns-in_err-ask-clause-value c =
    rw (exit _ c.from_residual.ensures.1) (stops _ (ask_interfaces _) (found c.check_interfaces.ensures c.ask.ensures) c.in_err-ask.was)

pub returns-in_err-ask-2-clause-value : goal.returns-in_err-ask-2-clause-value
returns-in_err-ask-2-clause-value c =
    rw (exit _ c.from_residual-in_err-ask-2.ensures.1) (stops _ (goes_on (ask_interfaces _) (found c.check_interfaces.ensures c.ask.ensures) c.in_ok-ask.was) (found_whole c.owners_fit.ensures c.at_zero.ensures c.ask-2.ensures) c.in_err-ask-2.was)

pub returns-in_err-ask-3-clause-value : goal.returns-in_err-ask-3-clause-value
returns-in_err-ask-3-clause-value c =
    rw (exit _ c.from_residual-in_err-ask-3.ensures.1) (stops _ (goes_on (goes_on (ask_interfaces _) (found c.check_interfaces.ensures c.ask.ensures) c.in_ok-ask.was) (found_whole c.owners_fit.ensures c.at_zero.ensures c.ask-2.ensures) c.in_ok-ask-2.was) (found c.check_types.ensures c.ask-3.ensures) c.in_err-ask-3.was)

pub returns-in_err-ask-4-clause-value : goal.returns-in_err-ask-4-clause-value
returns-in_err-ask-4-clause-value c =
    rw (exit _ c.from_residual-in_err-ask-4.ensures.1) (stops _ (goes_on (goes_on (goes_on (ask_interfaces _) (found c.check_interfaces.ensures c.ask.ensures) c.in_ok-ask.was) (found_whole c.owners_fit.ensures c.at_zero.ensures c.ask-2.ensures) c.in_ok-ask-2.was) (found c.check_types.ensures c.ask-3.ensures) c.in_ok-ask-3.was) (found c.check_nodes.ensures c.ask-4.ensures) c.in_err-ask-4.was)

pub returns-in_err-ask-5-clause-value : goal.returns-in_err-ask-5-clause-value
returns-in_err-ask-5-clause-value c =
    rw (exit _ c.from_residual-in_err-ask-5.ensures.1) (stops _ (goes_on (goes_on (goes_on (goes_on (ask_interfaces _) (found c.check_interfaces.ensures c.ask.ensures) c.in_ok-ask.was) (found_whole c.owners_fit.ensures c.at_zero.ensures c.ask-2.ensures) c.in_ok-ask-2.was) (found c.check_types.ensures c.ask-3.ensures) c.in_ok-ask-3.was) (found c.check_nodes.ensures c.ask-4.ensures) c.in_ok-ask-4.was) (found c.check_names.ensures c.ask-5.ensures) c.in_err-ask-5.was)

pub check_names-requires : goal.check_names-requires
check_names-requires c =
    says_yes (decides_owners _) (zero_yes _ (says_none _ (found_whole c.owners_fit.ensures c.at_zero.ensures c.ask-2.ensures) c.in_ok-ask-2.was))

pub member_verdict-requires : goal.member_verdict-requires
member_verdict-requires c =
    (within _ c.args.file.now.laid (says_none _ (found c.check_interfaces.ensures c.ask.ensures) c.in_ok-ask.was) (zero_yes _ (says_none _ (found_whole c.owners_fit.ensures c.at_zero.ensures c.ask-2.ensures) c.in_ok-ask-2.was)) (says_none _ (found c.check_types.ensures c.ask-3.ensures) c.in_ok-ask-3.was) (says_none _ (found c.check_nodes.ensures c.ask-4.ensures) c.in_ok-ask-4.was) (says_none _ (found c.check_names.ensures c.ask-5.ensures) c.in_ok-ask-5.was), c.requires)

pub returns-clause-value : goal.returns-clause-value
returns-clause-value c =
    then_members _ (goes_on (goes_on (goes_on (goes_on (goes_on (ask_interfaces _) (found c.check_interfaces.ensures c.ask.ensures) c.in_ok-ask.was) (found_whole c.owners_fit.ensures c.at_zero.ensures c.ask-2.ensures) c.in_ok-ask-2.was) (found c.check_types.ensures c.ask-3.ensures) c.in_ok-ask-3.was) (found c.check_nodes.ensures c.ask-4.ensures) c.in_ok-ask-4.was) (found c.check_names.ensures c.ask-5.ensures) c.in_ok-ask-5.was) _ c.member_verdict.ensures.value
