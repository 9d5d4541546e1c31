use Rattle.section_rows.proofs.SourceLaws.{source_readable}
use Rattle.section_rows.proofs.source.Source.node.Goals as goal

pub invariant_of-result-clause-nested : goal.invariant_of-result-clause-nested
invariant_of-result-clause-nested c =
    (source_readable c.args.self.now).nested
