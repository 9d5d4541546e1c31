use mathlib.Core.Path.{◌≡◌}
use Prim.Native.Nat.{◌+◌, ◌-◌, ◌*◌, ◌≤◌}
use lib.ListN.{drop}
use Rattle.rows.specs.Rows.{hop}
use Rattle.token_words.proofs.node.hop.Given as goal

abbrev pub invariant-loop-j : goal.invariant-loop-j
invariant-loop-j l = (l.from ≤ l.at) × (l.at ≤ l.from + 65535 * l._j) × (l.at + hop (l.parts - l._j) (drop l.at l.sizes) ≡ l.from + hop l.parts (drop l.from l.sizes))
