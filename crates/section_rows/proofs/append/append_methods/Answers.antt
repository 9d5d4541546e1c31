use mathlib.Core.Path.{◌≡◌}
use Prim.Native.Nat.{ℕ, ◌+◌}
use native.Mathlib.Omega.{arith}
use lib.ListN.{get_or, take}
use Rattle.script.specs.declared.Section.TheVariants.{Methods as methods, Nodes as nodes-section}
use Rattle.section_rows.specs.Records.{begun_among}
use Rattle.section_rows.proofs.PlaceLaws.{place_at_lem}
use Rattle.section_rows.proofs.AppendLaws.{nodes_within, number_row, whole_start, whole_end, whole_room, whole_next}
use Rattle.section_rows.proofs.SourceLaws.{sizes_few, source_readable, source_known}
use Rattle.section_rows.proofs.append.append_methods.Goals as goal

pub loop-i-init : goal.loop-i-init
loop-i-init c =
    whole_start (source_readable c.args.source.now) methods c.places-i-items.ensures _ _

pub overflow_add-first : goal.overflow_add-first
overflow_add-first c =
    let s = c.args.source.now in
    omega (arith, c.nodes_before.ensures _ c.places-nodes.ensures, nodes_within (source_known s c.requires.few) (get_or c.places-i-items.result.now c.loop-i.i-index 0), sizes_few s)

pub overflow_cast-first : goal.overflow_cast-first
overflow_cast-first c =
    let s = c.args.source.now in
    omega (arith, c.nodes_before.ensures _ c.places-nodes.ensures, nodes_within (source_known s c.requires.few) (get_or c.places-i-items.result.now c.loop-i.i-index 0), sizes_few s)

pub node-node-requires-clause-few : goal.node-node-requires-clause-few
node-node-requires-clause-few c =
    let s = c.args.source.now in
    omega (arith, c.nodes_before.ensures _ c.places-nodes.ensures, nodes_within (source_known s c.requires.few) (get_or c.places-i-items.result.now c.loop-i.i-index 0), sizes_few s)

pub append_row-requires : goal.append_row-requires
append_row-requires c =
    let e = c.places-i-items.ensures in
    let b = c.nodes_before.ensures _ c.places-nodes.ensures in
    let n = c.node-node.ensures.number in
    let same : (m : ℕ) → m ≡ c.args.base + begun_among nodes-section (take (get_or c.places-i-items.result.now c.loop-i.i-index 0) c.args.source.now.records.items.tokens.roles.now) → c.node-node.result.n ≡ m = λ m h. omega (arith, b, h, n) in
    let z = place_at_lem methods _ e c.loop-i.i-index c.loop-i-test.true in
    record {
      inside = z.inside;
      begins = z.begins;
      sizes_value = λ t. let a : ◌≡◌ {A = ℕ} 0 1 = cc in absurd (omega arith);
      fits = whole_room (source_readable c.args.source.now) methods e c.loop-i.invariant c.requires.fits c.loop-i-test.true c.node-node.result.n (λ m h. number_row methods _ _ (same m h));
    }

pub loop-i-preserved : goal.loop-i-preserved
loop-i-preserved c =
    let b = c.nodes_before.ensures _ c.places-nodes.ensures in
    let n = c.node-node.ensures.number in
    let same : (m : ℕ) → m ≡ c.args.base + begun_among nodes-section (take (get_or c.places-i-items.result.now c.loop-i.i-index 0) c.args.source.now.records.items.tokens.roles.now) → c.node-node.result.n ≡ m = λ m h. omega (arith, b, h, n) in
    whole_next (source_readable c.args.source.now) methods c.places-i-items.ensures c.loop-i.invariant c.requires.fits c.loop-i-test.true c.node-node.result.n
    (λ m h. number_row methods _ _ (same m h)) c.append_row.ensures

pub returns : goal.returns
returns c =
    whole_end (source_readable c.args.source.now) methods c.places-i-items.ensures c.loop-i.invariant c.loop-i-test.false
