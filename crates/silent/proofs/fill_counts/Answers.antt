use native.Mathlib.Omega.{arith}
use mathlib.Core.Path.{sym, ◌∙◌}
use Rattle.script.specs.declared.Section.TheVariants.{Nodes as nodes}
use Rattle.silent.proofs.CountLaws.{table_none, table_counting, table_more, table_all}
use Rattle.silent.proofs.fill_counts.Goals as goal

pub loop-n-init : goal.loop-n-init
loop-n-init c =
    table_none c.requires.0 c.requires.1 c.count_of-n.ensures.0

pub node_count-count-requires : goal.node_count-count-requires
node_count-count-requires c =
    table_counting c.requires.0 c.loop-n.invariant (omega arith)

pub offset_bounds-counts-n : goal.offset_bounds-counts-n
offset_bounds-counts-n c =
    omega (arith, c.loop-n.invariant.within, c.requires.0.counts_are.within nodes)

pub bounds-counts-n : goal.bounds-counts-n
bounds-counts-n c =
    omega (arith, c.loop-n.invariant.within, c.loop-n.invariant.table.long, c.requires.0.counts_are.within nodes)

pub loop-n-preserved : goal.loop-n-preserved
loop-n-preserved c =
    table_more c.requires.0 c.loop-n.invariant (omega arith) c.node_count-count.ensures (omega arith)

pub shape_of-counts : goal.shape_of-counts
shape_of-counts c =
    c.loop-n.invariant.table.long ∙ sym c.requires.1

pub returns : goal.returns
returns c =
    table_all c.requires.0 c.loop-n.invariant (omega arith)
