use Rattle.std.proofs.Common.{◌≡◌, List, [], ◌∷◌, drop}
use Rattle.numbering.specs.declared.Sort.{Sort}
use Rattle.numbering.specs.declared.Sort.TheVariants.{Methods, Fields, Variables}
use Rattle.ask_limits.proofs.Values.{sorts_numbered}
use Rattle.ask_limits.proofs.numbers.number_rest.Given as goal

abbrev pub sorts : List Sort
sorts = Methods ∷ Fields ∷ Variables ∷ []

-- The sorts that are left make of the values now what all make of the first ones.
abbrev pub invariant-loop-sort : goal.invariant-loop-sort
invariant-loop-sort g l = sorts_numbered l.linked.tokens (drop l.sort-index sorts) l.values ≡ sorts_numbered l.linked.tokens sorts l.initial.values
