use native.Mathlib.Omega.{arith}
use mathlib.Core.Path.{sym, ◌∙◌}
use Rattle.state.proofs.Taking.{beneath_join, beneath_none}
use Rattle.state.proofs.reading.beneath_at.Goals as goal

pub returns-then-kind-eq-JOIN : goal.returns-then-kind-eq-JOIN
returns-then-kind-eq-JOIN c =
    (beneath_join _ _ _ _ (sym c.word-kind.ensures.0 ∙ c.if-kind-eq-JOIN.true), omega arith)

pub returns : goal.returns
returns c =
    (beneath_none _ _ _ _ (λ e. c.if-kind-eq-JOIN.false (c.word-kind.ensures.0 ∙ e)), omega arith)
