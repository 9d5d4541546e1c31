use native.Mathlib.Omega.{arith}
use Rattle.in_order.proofs.KindLaws as laws
use Rattle.in_order.proofs.records.frame_in_order.Goals as goal

pub returns-in-1 : goal.returns-in-1
returns-in-1 c =
    laws.awaits_known _ _ _ c.word.ensures.0 c.in-1.is

pub returns-in-2 : goal.returns-in-2
returns-in-2 c =
    laws.opens_or_casts _ _ _ c.word.ensures.0 (omega arith) (omega arith) c.unused.ensures

pub returns-in_default : goal.returns-in_default
returns-in_default c =
    laws.unknown_frame _ _ _ c.word.ensures.0 (λ e. omega arith) (λ e. omega arith) (λ e. omega arith)

pub returns-in_default-2 : goal.returns-in_default-2
returns-in_default-2 c =
    laws.unknown_frame _ _ _ c.word.ensures.0 (λ e. omega arith) (λ e. omega arith) (λ e. omega arith)
