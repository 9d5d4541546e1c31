use Rattle.sharing.proofs.SpanLaws.{SpanTo}
use Rattle.sharing.proofs.forks.fill_span.Given as goal

abbrev pub invariant-loop-n : goal.invariant-loop-n
invariant-loop-n l = SpanTo l.script.bytes.now l.start l.masks l.initial.facts l.facts l.n
