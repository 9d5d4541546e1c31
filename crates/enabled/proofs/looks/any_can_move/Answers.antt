use native.Mathlib.Omega.{arith}
use Rattle.enabled.proofs.LookLaws.{none_first, none_next, none_all, one_able, first_able}
use Rattle.enabled.proofs.looks.any_can_move.Goals as goal

pub returns-then-can_move : goal.returns-then-can_move
returns-then-can_move c =
    first_able _ c.can_move.ensures c.if-can_move.true

pub loop-i-init : goal.loop-i-init
loop-i-init c =
    none_first

pub returns-then-can_move-2 : goal.returns-then-can_move-2
returns-then-can_move-2 c =
    one_able (omega arith) c.can_move-in-loop-i.ensures c.if-can_move-2.true

pub loop-i-preserved : goal.loop-i-preserved
loop-i-preserved c =
    none_next c.loop-i.invariant (omega arith) c.can_move-in-loop-i.ensures c.if-can_move-2.false

pub returns : goal.returns
returns c =
    none_all c.loop-i.invariant (omega arith)
