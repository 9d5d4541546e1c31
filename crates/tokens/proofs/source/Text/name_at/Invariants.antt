use Prim.Native.Nat.{◌+◌, ◌<◌}
use mathlib.Core.Path.{◌≡◌}
use lib.ListN.{length, drop}
use Rattle.tokens.specs.Runs.{word_from, HASHES, hash_from, spelling_hash}
use Rattle.tokens.proofs.source.Text.name_at.Given as goal

abbrev pub invariant-loop-i : goal.invariant-loop-i
invariant-loop-i l = (l.hash < HASHES)
    × (spelling_hash (word_from (drop l.at l.self.bytes.now)) ≡ hash_from l.hash (word_from (drop l.i l.self.bytes.now)))
    × (l.at + length (word_from (drop l.at l.self.bytes.now)) ≡ l.i + length (word_from (drop l.i l.self.bytes.now)))
