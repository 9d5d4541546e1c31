use Rattle.silent.proofs.CountLaws.{TableFrom}
use Rattle.silent.proofs.fill_counts.Given as goal

abbrev pub invariant-loop-n : goal.invariant-loop-n
invariant-loop-n l = TableFrom l.s l.counts l.n l.most
