use mathlib.Core.Path.{◌≡◌}
use lib.ListN.{length}
use Rattle.runs.proofs.RunLaws.{Loop}
use Rattle.runs.proofs.runs.follow.Given as goal

abbrev pub invariant-loop-read : goal.invariant-loop-read
invariant-loop-read l = (l.table ≡ l.initial.table) × (length l.block ≡ length l.initial.block) × Loop l.code.script.bytes.now l.initial.block l.choices l.block l.read l.moves
