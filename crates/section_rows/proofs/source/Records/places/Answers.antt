use Rattle.section_rows.proofs.FileLaws.{part_of}
use Rattle.section_rows.proofs.source.Records.places.Goals as goal

pub returns : goal.returns
returns c =
    let r = c.args.self.now in
    part_of r.indexed r.counted r.few_records c.args.section c.index_of-first.ensures c.of.ensures
