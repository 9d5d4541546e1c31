use mathlib.Core.Path.{ap}
use mathlib.Core.Bool.{not}
use mathlib.Core.Logic.{⊎_elim}
use native.Mathlib.Omega.{arith}
use Rattle.in_order.proofs.KindLaws as laws
use Rattle.in_order.proofs.records.position_in_order.Goals as goal

pub returns-in-1 : goal.returns-in-1
returns-in-1 c =
    ⊎_elim (λ k. laws.running_asked _ _ _ c.word.ensures.0 k c.unused.ensures) (λ k. laws.join_asked _ _ _ c.word.ensures.0 k c.unused.ensures) c.in-1.is

pub returns-then-value_in_order : goal.returns-then-value_in_order
returns-then-value_in_order c =
    laws.returning_asked _ _ _ c.word.ensures.0 c.in-2.is c.value_in_order.ensures (ap not c.if-value_in_order.true) c.unused-then-value_in_order.ensures

pub returns-else-value_in_order : goal.returns-else-value_in_order
returns-else-value_in_order c =
    rw c.if-value_in_order.false (laws.value_refused _ _ _ c.word.ensures.0 c.in-2.is c.value_in_order.ensures (ap not c.if-value_in_order.false))

pub returns-in-3 : goal.returns-in-3
returns-in-3 c =
    laws.failed_asked _ _ _ c.word.ensures.0 c.in-3.is c.unused-in-3.ensures

pub returns-in_default : goal.returns-in_default
returns-in_default c =
    laws.unknown_position _ _ _ c.word.ensures.0 (grind arith) (grind arith) (grind arith) (grind arith)
