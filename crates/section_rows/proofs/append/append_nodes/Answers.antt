use mathlib.Core.Path.{refl, sym, ◌∙◌}
use Prim.Native.Nat.{◌+◌, ◌-◌}
use native.Mathlib.Omega.{arith}
use lib.ListN.{get_or, drop}
use Rattle.script.specs.declared.Section.TheVariants.{Nodes as nodes-section}
use Rattle.token_words.specs.Whole.{items_in}
use Rattle.section_rows.proofs.PlaceLaws.{place_at_lem}
use Rattle.section_rows.proofs.RowLaws.{row_length}
use Rattle.section_rows.proofs.AppendLaws.{append_start, append_end, items_roled, node_sizes, node_next, nodes_few}
use Rattle.section_rows.proofs.SourceLaws.{sizes_few, source_readable, source_known}
use Rattle.section_rows.proofs.append.append_nodes.Goals as goal

pub loop-k-init : goal.loop-k-init
loop-k-init c =
    let t = c.args.source.now.records.items in
    (omega arith, refl, refl, λ a b s. append_start _ (items_in t) nodes-section t.types a b c.args.base c.args.output.now s.ordered (sym s.from_is))

pub overflow_cast-n : goal.overflow_cast-n
overflow_cast-n c =
    let s = c.args.source.now in
    omega (arith, sizes_few s)

pub node-node-requires-clause-few : goal.node-node-requires-clause-few
node-node-requires-clause-few c =
    let s = c.args.source.now in
    omega (arith, sizes_few s)

pub node-node-requires-clause-in_bounds : goal.node-node-requires-clause-in_bounds
node-node-requires-clause-in_bounds c =
    let s = c.args.source.now in
    omega (arith, sizes_few s)

pub bounds-places-k : goal.bounds-places-k
bounds-places-k c =
    omega (arith, nodes_few (source_known c.args.source.now c.requires.few) c.places-places.ensures)

pub append_row-requires : goal.append_row-requires
append_row-requires c =
    let s = c.args.source.now in
    let q = source_known s c.requires.few in
    let e = c.places-places.ensures in
    let z = place_at_lem nodes-section _ e c.loop-k.k (omega (arith, nodes_few q e)) in
    let r = row_length nodes-section s.records.items.types c.node-node.result.n (drop (get_or c.places-places.result.now c.loop-k.k 0) (items_in s.records.items)) in
    record {
      inside = z.inside;
      begins = z.begins;
      sizes_value = λ _. rw (c.node-node.ensures.start, c.node-node.ensures.sizes) (node_sizes q z);
      fits = omega (arith, r, c.requires.fits, c.loop-k.invariant.0, c.loop-k.invariant.1);
    }

pub loop-k-preserved : goal.loop-k-preserved
loop-k-preserved c =
    let s = c.args.source.now in
    let q = source_known s c.requires.few in
    let e = c.places-places.ensures in
    let f = rw c.node-node.ensures.number at c.append_row.ensures in
    let z = place_at_lem nodes-section _ e c.loop-k.k (omega (arith, nodes_few q e)) in
    let r = row_length nodes-section s.records.items.types (c.args.base + (c.loop-k.k - c.args.from)) (drop (get_or c.places-places.result.now c.loop-k.k 0) (items_in s.records.items)) in (
      omega (arith, r, f.appended.end_is, c.loop-k.invariant.0),
      f.same_long ∙ c.loop-k.invariant.1,
      f.same_reference ∙ c.loop-k.invariant.2,
      λ a b t. node_next q z (omega arith) c.loop-k-test.true t c.requires.fits (c.loop-k.invariant.3 a b t) f,
    )

pub returns : goal.returns
returns c =
    record {
      by_index = λ a b t. append_end (items_roled (source_readable c.args.source.now)) (c.loop-k.invariant.3 a b t) (omega (arith, t.to_is));
      end = omega (arith, c.loop-k.invariant.0);
      same_long = c.loop-k.invariant.1;
      same_reference = c.loop-k.invariant.2;
    }
