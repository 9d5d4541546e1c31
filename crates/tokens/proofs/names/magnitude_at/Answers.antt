use mathlib.Core.Path.{sym, ◌∙◌}
use native.Mathlib.Omega.{arith}
use Rattle.grammar.specs.Tokens.{digit_test}
use Rattle.word_kinds.proofs.RunLaws.{run_stops, run_ends}
use Rattle.tokens.proofs.NameLaws.{value_on, value_done, value_beyond}
use Rattle.tokens.proofs.names.magnitude_at.Goals as goal

pub returns-then-not-is_ascii_digit : goal.returns-then-not-is_ascii_digit
returns-then-not-is_ascii_digit c =
    value_done _ _ _ c.loop-i.invariant.0 c.loop-i.invariant.1 (run_stops digit_test _ _ c.loop-i-test.true (sym c.is_ascii_digit.ensures.value ∙ c.if-not-is_ascii_digit.true))

pub returns-then-value : goal.returns-then-value
returns-then-value c =
    value_beyond _ _ _ c.if-value.true (c.loop-i.invariant.1 ∙ value_on _ _ _ c.loop-i-test.true (sym c.is_ascii_digit.ensures.value ∙ c.if-not-is_ascii_digit.false))

pub loop-i-preserved : goal.loop-i-preserved
loop-i-preserved c =
    (omega arith, c.loop-i.invariant.1 ∙ value_on _ _ _ c.loop-i-test.true (sym c.is_ascii_digit.ensures.value ∙ c.if-not-is_ascii_digit.false))

pub returns : goal.returns
returns c =
    value_done _ _ _ c.loop-i.invariant.0 c.loop-i.invariant.1 (run_ends digit_test _ _ c.loop-i-test.false)
