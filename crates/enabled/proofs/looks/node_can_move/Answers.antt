use Rattle.enabled.proofs.LookLaws.{other_moves, lock_moves}
use Rattle.enabled.proofs.looks.node_can_move.Goals as goal

pub returns-in_default : goal.returns-in_default
returns-in_default c =
    λ x p rest fs h. other_moves x h _ c.kind_at.ensures c.in_default.not-Lock

pub returns-in-Lock : goal.returns-in-Lock
returns-in-Lock c =
    λ x p rest fs h. lock_moves x h _ c.kind_at.ensures c.in-Lock.is _ c.node_word.ensures.0 (λ d k. c.lock_open.ensures x.config p rest _ d k fs h)
