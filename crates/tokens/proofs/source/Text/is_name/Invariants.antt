use Prim.Native.Nat.{◌+◌}
use mathlib.Core.Path.{◌≡◌}
use lib.ListN.{length, drop}
use Rattle.grammar.specs.Tokens.{same_spelling}
use Rattle.tokens.specs.Runs.{word_from}
use Rattle.tokens.proofs.source.Text.is_name.Given as goal

abbrev pub invariant-loop-i : goal.invariant-loop-i
invariant-loop-i l = (l.i + length (word_from (drop (l.at + l.i) l.self.bytes.now)) ≡ l.size)
    × (same_spelling (word_from (drop l.a l.self.bytes.now)) (word_from (drop l.at l.self.bytes.now))
    ≡ same_spelling (word_from (drop (l.a + l.i) l.self.bytes.now)) (word_from (drop (l.at + l.i) l.self.bytes.now)))
