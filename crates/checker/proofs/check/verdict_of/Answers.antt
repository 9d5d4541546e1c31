use Rattle.inference.proofs.InferLaws.{exit}
use Rattle.checker.proofs.CheckLaws.{found_whole, says_none, zero_yes, goes_on, stops, ask_length, contents_fit, laid, then_records}
use Rattle.checker.proofs.check.verdict_of.Goals as goal

pub returns-in_err-ask-clause-value : goal.returns-in_err-ask-clause-value
returns-in_err-ask-clause-value c =
    rw (exit _ c.from_residual.ensures.1) (stops _ (ask_length _) (found_whole c.length_fits.ensures c.at_zero.ensures c.ask.ensures) c.in_err-ask.was)

pub returns-in_err-ask-2-clause-value : goal.returns-in_err-ask-2-clause-value
returns-in_err-ask-2-clause-value c =
    rw (exit _ c.from_residual-in_err-ask-2.ensures.1) (stops _ (goes_on (ask_length _) (found_whole c.length_fits.ensures c.at_zero.ensures c.ask.ensures) c.in_ok-ask.was) (found_whole c.counts_fit.ensures c.at_zero-2.ensures c.ask-2.ensures) c.in_err-ask-2.was)

pub returns-in_err-ask-3-clause-value : goal.returns-in_err-ask-3-clause-value
returns-in_err-ask-3-clause-value c =
    rw (exit _ c.from_residual-in_err-ask-3.ensures.1) (stops _ (goes_on (goes_on (ask_length _) (found_whole c.length_fits.ensures c.at_zero.ensures c.ask.ensures) c.in_ok-ask.was) (found_whole c.counts_fit.ensures c.at_zero-2.ensures c.ask-2.ensures) c.in_ok-ask-2.was) (found_whole c.places_fit.ensures c.at_zero-3.ensures c.ask-3.ensures) c.in_err-ask-3.was)

pub counts_fit-requires : goal.counts_fit-requires
counts_fit-requires c =
    contents_fit _ (zero_yes _ (says_none _ (found_whole c.length_fits.ensures c.at_zero.ensures c.ask.ensures) c.in_ok-ask.was))

pub places_fit-requires : goal.places_fit-requires
places_fit-requires c =
    contents_fit _ (zero_yes _ (says_none _ (found_whole c.length_fits.ensures c.at_zero.ensures c.ask.ensures) c.in_ok-ask.was))

pub invariant_of-record_verdict : goal.invariant_of-record_verdict
invariant_of-record_verdict c =
    record { laid = laid _ (zero_yes _ (says_none _ (found_whole c.length_fits.ensures c.at_zero.ensures c.ask.ensures) c.in_ok-ask.was)) (zero_yes _ (says_none _ (found_whole c.counts_fit.ensures c.at_zero-2.ensures c.ask-2.ensures) c.in_ok-ask-2.was)) (zero_yes _ (says_none _ (found_whole c.places_fit.ensures c.at_zero-3.ensures c.ask-3.ensures) c.in_ok-ask-3.was)) }

pub returns-clause-value : goal.returns-clause-value
returns-clause-value c =
    then_records _ (goes_on (goes_on (goes_on (ask_length _) (found_whole c.length_fits.ensures c.at_zero.ensures c.ask.ensures) c.in_ok-ask.was) (found_whole c.counts_fit.ensures c.at_zero-2.ensures c.ask-2.ensures) c.in_ok-ask-2.was) (found_whole c.places_fit.ensures c.at_zero-3.ensures c.ask-3.ensures) c.in_ok-ask-3.was) _ c.record_verdict.ensures.value
