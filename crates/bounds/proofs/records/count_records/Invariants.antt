use Rattle.bounds.proofs.Answers.{Going}
use Rattle.bounds.proofs.records.count_records.Given as goal

abbrev pub invariant-loop-i : goal.invariant-loop-i
invariant-loop-i l = Going l.tokens.text.bytes.now l.tokens.roles.now l.tokens.offsets.now l.counts.entries l.index l.i
