use native.Mathlib.Omega.{arith}
use lib.ListN.{length-set}
use Rattle.memo.proofs.remember.Goals as goal

pub bounds-memo-at-2 : goal.bounds-memo-at-2
bounds-memo-at-2 c =
    simp length-set (omega arith)

pub bounds-memo-at-3 : goal.bounds-memo-at-3
bounds-memo-at-3 c =
    simp length-set (omega arith)
