use Rattle.names.specs.Ranks.{link_of}
use Rattle.names.proofs.SearchLaws.{Looking}
use Rattle.names.proofs.ranks.find_slot.Given as goal

abbrev pub invariant-loop-next : goal.invariant-loop-next
invariant-loop-next l = Looking l.s l.facts l.x (link_of l.next)

abbrev pub decreases-loop-next : goal.decreases-loop-next
decreases-loop-next l = link_of l.next
