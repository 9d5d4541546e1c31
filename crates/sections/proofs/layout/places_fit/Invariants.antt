use Rattle.sections.proofs.CodeLaws.{PlacesLeft}
use Rattle.sections.proofs.layout.places_fit.Given as goal

abbrev pub invariant-loop-k : goal.invariant-loop-k
invariant-loop-k l = PlacesLeft l.s l.at l.k-index
