use Prim.Native.Nat.{◌<◌}
use mathlib.Core.Path.{◌≡◌}
use lib.ListN.{drop}
use Rattle.grammar.specs.Tokens.{decimal, decimal_from}
use Rattle.tokens.specs.Runs.{digits_from, BEYOND}
use Rattle.tokens.proofs.names.magnitude_at.Given as goal

abbrev pub invariant-loop-i : goal.invariant-loop-i
invariant-loop-i l = (l.value < BEYOND) × (decimal (digits_from (drop l.at l.text)) ≡ decimal_from l.value (digits_from (drop l.i l.text)))
