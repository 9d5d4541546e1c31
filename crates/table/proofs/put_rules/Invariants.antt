use Rattle.table.proofs.TableLaws.{Ruled}
use Rattle.table.proofs.put_rules.Given as goal

abbrev pub invariant-loop-place : goal.invariant-loop-place
invariant-loop-place l = Ruled l.place-items l.place-index l.initial.table l.table
