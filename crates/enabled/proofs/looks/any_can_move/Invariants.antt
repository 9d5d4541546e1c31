use Rattle.enabled.proofs.LookLaws.{NoneAble}
use Rattle.enabled.proofs.looks.any_can_move.Given as goal

abbrev pub invariant-loop-i : goal.invariant-loop-i
invariant-loop-i l = NoneAble l.s l.block l.i
