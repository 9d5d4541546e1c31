use mathlib.Core.Path.{sym}
use mathlib.Core.List.{◌++◌}
use native.Mathlib.Omega.{arith}
use lib.ListN.{length}
use lib.Seq.{length-take-le}
use Rattle.token_words.specs.Whole.{items_in}
use Rattle.section_rows.specs.Counted.{record_rows, start_and_bodies}
use Rattle.row_bytes.specs.Output.{Fits}
use Rattle.row_bytes.proofs.OutputLaws.{fits_first, fits_second, extended_both}
use Rattle.section_rows.proofs.SourceLaws.{tokens_roled}
use Rattle.writer.proofs.TableLaws.{places_few, own_fits, own_is}
use Rattle.writer.proofs.SectionLaws.{sections_from, nodes_long}
use Rattle.writer.proofs.file.append_sections.Goals as goal

pub slice_bounds-table-end : goal.slice_bounds-table-end
slice_bounds-table-end c =
    places_few c.args.records.now c.places-places.ensures

pub slice_bounds-sizes-end : goal.slice_bounds-sizes-end
slice_bounds-sizes-end c =
    sym (length-take-le _ _ (places_few c.args.records.now c.places-places.ensures))

pub fill_sizes-requires : goal.fill_sizes-requires
fill_sizes-requires c =
    let f = places_few c.args.records.now c.places-places.ensures in
    let l = length-take-le (length c.places-places.result.now) _ f in
    (c.places-places.ensures, l, omega (arith, l))

pub invariant_of-source : goal.invariant_of-source
invariant_of-source c =
    record { sizes_are = c.fill_sizes.ensures _ (tokens_roled c.args.records.now) }

pub append_records-requires-clause-few : goal.append_records-requires-clause-few
append_records-requires-clause-few c =
    let r = c.args.records.now in own_fits r c.args.start c.count_nodes-own.ensures (c.fill_sizes.ensures _ (tokens_roled r))

pub append_records-requires-clause-fits : goal.append_records-requires-clause-fits
append_records-requires-clause-fits c =
    let r = c.args.records.now in
    let n = c.count_nodes-own.result in
    let e = sections_from r.items.types c.args.start (items_in r.items) (own_is r c.args.start c.count_nodes-own.ensures) in
    let u = record_rows r.items.types n (items_in r.items) in
    let v = start_and_bodies r.items.types c.args.start n (items_in r.items) in
    let h : Fits c.args.output.now (u ++ v) = rw e c.requires.fits in
    fits_first c.args.output.now u v h

pub append_expressions-requires-clause-few : goal.append_expressions-requires-clause-few
append_expressions-requires-clause-few c =
    let r = c.args.records.now in own_fits r c.args.start c.count_nodes-own.ensures (c.fill_sizes.ensures _ (tokens_roled r))

pub append_expressions-requires-clause-fits : goal.append_expressions-requires-clause-fits
append_expressions-requires-clause-fits c =
    let r = c.args.records.now in
    let n = c.count_nodes-own.result in
    let e = sections_from r.items.types c.args.start (items_in r.items) (own_is r c.args.start c.count_nodes-own.ensures) in
    let u = record_rows r.items.types n (items_in r.items) in
    let v = start_and_bodies r.items.types c.args.start n (items_in r.items) in
    let h : Fits c.args.output.now (u ++ v) = rw e c.requires.fits in
    let z = c.fill_sizes.ensures _ (tokens_roled r) in
    omega (arith, fits_second c.args.output.now u v h c.append_records.ensures, nodes_long r z c.args.start n c.requires.starts)

pub returns : goal.returns
returns c =
    let r = c.args.records.now in
    let n = c.count_nodes-own.result in
    let e = sections_from r.items.types c.args.start (items_in r.items) (own_is r c.args.start c.count_nodes-own.ensures) in
    let u = record_rows r.items.types n (items_in r.items) in
    let v = start_and_bodies r.items.types c.args.start n (items_in r.items) in
    let h : Fits c.args.output.now (u ++ v) = rw e c.requires.fits in
    rw (← e) (extended_both c.args.output.now u v h c.append_records.ensures (c.append_expressions.ensures c.args.start c.requires.starts c.count_nodes-own.ensures))
