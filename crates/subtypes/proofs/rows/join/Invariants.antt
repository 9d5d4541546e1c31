use Rattle.subtypes.proofs.RowLaws.{Joining}
use Rattle.subtypes.proofs.rows.join.Given as goal

abbrev pub invariant-loop-w : goal.invariant-loop-w
invariant-loop-w l = Joining l.initial.rows l.rows l.i l.l l.r l.w
