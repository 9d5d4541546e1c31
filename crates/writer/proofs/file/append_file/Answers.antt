use Rattle.rows.specs.Rows.{sections_words}
use Rattle.token_words.specs.Whole.{items_in}
use Rattle.row_bytes.proofs.OutputLaws.{fits_first, fits_second, extended_both}
use Rattle.writer.specs.Files.{contents_by}
use Rattle.bounds.specs.Counting.{types_of}
use Rattle.writer.proofs.file.append_file.Goals as goal

pub append_contents-requires-clause-fits : goal.append_contents-requires-clause-fits
append_contents-requires-clause-fits c =
    let r = c.args.records.now in
    fits_first c.args.output.now (contents_by r.counts) (sections_words (types_of r.counts) c.args.start (items_in r.items)) c.requires.fits

pub append_sections-requires-clause-fits : goal.append_sections-requires-clause-fits
append_sections-requires-clause-fits c =
    let r = c.args.records.now in
    rw r.types_are (fits_second c.args.output.now (contents_by r.counts) (sections_words (types_of r.counts) c.args.start (items_in r.items)) c.requires.fits c.append_contents.ensures)

pub returns : goal.returns
returns c =
    let r = c.args.records.now in
    extended_both c.args.output.now (contents_by r.counts) (sections_words (types_of r.counts) c.args.start (items_in r.items)) c.requires.fits c.append_contents.ensures
    (rw r.types_are at c.append_sections.ensures)
