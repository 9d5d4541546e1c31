use lib.ListN.{length}
use Prim.Native.Nat.{◌-◌}
use Rattle.judge.proofs.JudgeLaws.{Going}
use Rattle.judge.proofs.judge_by.Given as goal

abbrev pub invariant-loop-t : goal.invariant-loop-t
invariant-loop-t l = Going l.text.bytes.now l.initial.roles l.initial.offsets l.initial.closers l.s l.at l.roles l.offsets l.closers

abbrev pub decreases-loop-t : goal.decreases-loop-t
decreases-loop-t l = length l.text.bytes.now - l.at
