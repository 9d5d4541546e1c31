use mathlib.Core.Path.{◌≡◌}
use Rattle.byte_table.proofs.RangeLaws.{ranged_to}
use Rattle.byte_table.proofs.byte_kinds.Given as goal

abbrev pub invariant-loop-first : goal.invariant-loop-first
invariant-loop-first l = l.kinds ≡ ranged_to l.first-items l.first-index l.initial.kinds
