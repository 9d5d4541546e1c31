use Rattle.table.specs.Table.{closed_to}
use mathlib.Core.Path.{◌≡◌}
use Rattle.table.proofs.put_closing.Given as goal

abbrev pub invariant-loop-k : goal.invariant-loop-k
invariant-loop-k l = l.table ≡ closed_to l.k l.initial.table
