use native.Mathlib.Omega.{arith}
use Rattle.held.proofs.Locks.{none_passed, lock_found, lock_passed, lock_none}
use Rattle.held.proofs.held.lock_within.Goals as goal

pub loop-i-init : goal.loop-i-init
loop-i-init c =
    none_passed _ _ _ _

pub returns-then-locks : goal.returns-then-locks
returns-then-locks c =
    lock_found c.loop-i.invariant _ (omega arith) c.frame-f.ensures c.locks.ensures c.if-locks.true

pub loop-i-preserved : goal.loop-i-preserved
loop-i-preserved c =
    lock_passed c.loop-i.invariant _ (omega arith) c.frame-f.ensures c.locks.ensures c.if-locks.false

pub returns : goal.returns
returns c =
    lock_none c.loop-i.invariant (omega arith)
