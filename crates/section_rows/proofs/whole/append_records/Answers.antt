use Rattle.section_rows.proofs.SourceLaws.{extended_all}
use Rattle.section_rows.proofs.whole.append_records.Goals as goal

pub returns : goal.returns
returns c =
    extended_all _ _ _ c.requires.fits c.append_plain.ensures c.append_plain-2.ensures c.append_plain-3.ensures c.append_plain-4.ensures c.append_methods.ensures
