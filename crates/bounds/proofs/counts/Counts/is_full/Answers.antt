use Rattle.bounds.proofs.Pass.{entry_below, most_at}
use Rattle.bounds.proofs.Counters.{a_section}
use Rattle.bounds.proofs.counts.Counts.is_full.Goals as goal

pub returns : goal.returns
returns c =
    rw (c.most_of.ensures, c.of.ensures, ← most_at c.args.section) (a_section _ _ (entry_below c.args.section))
