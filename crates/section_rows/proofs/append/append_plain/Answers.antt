use native.Mathlib.Omega.{arith}
use Rattle.section_rows.proofs.PlaceLaws.{place_at_lem}
use Rattle.section_rows.proofs.AppendLaws.{plain_not_nodes, whole_start, whole_end, whole_room, whole_next}
use Rattle.section_rows.proofs.SourceLaws.{sizes_few, source_readable}
use Rattle.section_rows.proofs.append.append_plain.Goals as goal

pub node-node-requires-clause-few : goal.node-node-requires-clause-few
node-node-requires-clause-few c =
    omega (arith, sizes_few c.args.source.now)

pub loop-i-init : goal.loop-i-init
loop-i-init c =
    whole_start (source_readable c.args.source.now) _ c.places-i-items.ensures 0 _

pub append_row-requires : goal.append_row-requires
append_row-requires c =
    let e = c.places-i-items.ensures in
    let p = c.requires.unnumbered in
    let z = place_at_lem c.args.section _ e c.loop-i.i-index c.loop-i-test.true in
    record {
      inside = z.inside;
      begins = z.begins;
      sizes_value = λ n. absurd (plain_not_nodes p n);
      fits = whole_room (source_readable c.args.source.now) c.args.section e c.loop-i.invariant c.requires.fits c.loop-i-test.true c.node-node.result.n (λ m _. p.same _ _ m _);
    }

pub loop-i-preserved : goal.loop-i-preserved
loop-i-preserved c =
    whole_next (source_readable c.args.source.now) c.args.section c.places-i-items.ensures c.loop-i.invariant c.requires.fits c.loop-i-test.true c.node-node.result.n
    (λ m _. c.requires.unnumbered.same _ _ m _) c.append_row.ensures

pub returns : goal.returns
returns c =
    whole_end (source_readable c.args.source.now) _ c.places-i-items.ensures c.loop-i.invariant c.loop-i-test.false
