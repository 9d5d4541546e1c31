use Rattle.enabled.proofs.MarkLaws.{Marked}
use Rattle.enabled.proofs.marks.mark.Given as goal

abbrev pub invariant-loop-n : goal.invariant-loop-n
invariant-loop-n l = Marked l.s l.block l.flags l.n
