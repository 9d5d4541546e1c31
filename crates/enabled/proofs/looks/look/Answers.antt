use native.Mathlib.Omega.{arith}
use Rattle.enabled.proofs.LookLaws.{looks_finished, looks_failed, looks_on, looks_deadlocked}
use Rattle.enabled.proofs.looks.look.Goals as goal

pub entry_at-requires : goal.entry_at-requires
entry_at-requires c =
    omega arith

pub returns-in-Busy : goal.returns-in-Busy
returns-in-Busy c =
    λ x. looks_on x _ c.entry_at.ensures.0 c.phase_of.ensures c.in-Busy.is (c.any_can_move.ensures x) c.if-any_can_move.true

pub returns-in-Finished : goal.returns-in-Finished
returns-in-Finished c =
    λ x. looks_finished x _ c.entry_at.ensures.0 c.phase_of.ensures c.in-Finished.is

pub returns-in-Broken : goal.returns-in-Broken
returns-in-Broken c =
    λ x. looks_failed x _ c.entry_at.ensures.0 c.phase_of.ensures c.in-Broken.is

pub returns-in-Busy-2 : goal.returns-in-Busy-2
returns-in-Busy-2 c =
    λ x. looks_deadlocked x _ c.entry_at.ensures.0 c.phase_of.ensures c.in-Busy-2.is (c.any_can_move.ensures x) c.if-any_can_move.false
