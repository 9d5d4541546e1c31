use Rattle.script.specs.Section.{sections}
use Rattle.script.specs.Questions.{counts_test}
use Rattle.sections.proofs.CodeLaws.{within_is}
use Rattle.sections.proofs.layout.counts_fit.Goals as goal

pub returns-then-counts_within : goal.returns-then-counts_within
unfolding counts_test
returns-then-counts_within c =
    rw (← within_is _ sections, ← c.counts_within.ensures, c.if-counts_within.true, c.count_of.ensures.0)

pub returns-else-counts_within : goal.returns-else-counts_within
unfolding counts_test
returns-else-counts_within c =
    rw (← within_is _ sections, ← c.counts_within.ensures, c.if-counts_within.false)
