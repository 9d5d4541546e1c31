use Rattle.tokens.proofs.TokenLaws.{Skips}
use Rattle.tokens.proofs.source.Text.skip_last.Given as goal

abbrev pub invariant-loop-i : goal.invariant-loop-i
invariant-loop-i l = Skips l.self.bytes.now l.at l.i
