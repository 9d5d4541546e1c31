use Prim.Native.Nat.{◌+◌}
use mathlib.Core.Path.{◌≡◌}
use lib.ListN.{length, drop}
use Rattle.tokens.specs.Runs.{byte_run}
use Rattle.tokens.specs.Kinds.{kind_test}
use Rattle.tokens.proofs.source.Text.run_end.Given as goal

abbrev pub invariant-loop-i : goal.invariant-loop-i
invariant-loop-i l = l.i + length (byte_run (kind_test l.least) (drop l.i l.self.bytes.now)) ≡ l.at + length (byte_run (kind_test l.least) (drop l.at l.self.bytes.now))
