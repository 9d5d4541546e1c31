use mathlib.Core.List.{◌++◌}
use native.Mathlib.Omega.{arith}
use lib.ListN.{length}
use Rattle.script.specs.declared.Section.TheVariants.{Nodes as nodes}
use Rattle.token_words.specs.Whole.{items_in}
use Rattle.section_rows.proofs.RowLaws.{rows_between}
use Rattle.row_bytes.specs.Output.{Fits}
use Rattle.row_bytes.proofs.OutputLaws.{extended_as, extended_both}
use Rattle.section_rows.proofs.FileLaws.{start_stretch, body_stretch, stretches, stretches_fit}
use Rattle.section_rows.proofs.SourceLaws.{source_readable, sizes_all}
use Rattle.section_rows.proofs.whole.append_expressions.Goals as goal

pub returns : goal.returns
returns c start h o =
    let s = c.args.source.now in
    let q = source_readable s in
    let p = sizes_all s in
    let f = c.append_nodes.ensures.by_index start (length s.records.items.tokens.roles.now) (start_stretch q p h o) in
    let g = c.append_nodes-2.ensures.by_index 0 start (body_stretch q p h o) in
    let u = rows_between nodes s.records.items.types start (length s.records.items.tokens.roles.now) 0 (items_in s.records.items) in
    let v = rows_between nodes s.records.items.types 0 start c.args.own (items_in s.records.items) in
    let n : Fits c.args.output.now (u ++ v) = omega (arith, c.requires.fits, stretches_fit q p h o) in
    extended_as (stretches q p h o) (extended_both c.args.output.now u v n f g)
