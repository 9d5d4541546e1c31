use native.Mathlib.Omega.{arith}
use Rattle.std.proofs.Common.{rules}
use Rattle.writer.proofs.SectionLaws.{whole_fits, buffer_is}
use Rattle.writer.proofs.file.write_file.Goals as goal

pub append_file-requires-clause-fits : goal.append_file-requires-clause-fits
append_file-requires-clause-fits c =
    omega (arith, whole_fits c.args.records.now c.args.start c.requires.starts)

pub returns : goal.returns
returns c =
    buffer_is c.args.file.now _ c.requires.whole (whole_fits c.args.records.now c.args.start c.requires.starts) c.clear.ensures (search rules)
