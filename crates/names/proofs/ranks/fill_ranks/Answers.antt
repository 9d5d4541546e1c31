use mathlib.Core.Path.{sym, ◌∙◌}
use native.Mathlib.Omega.{arith}
use Rattle.names.proofs.FillLaws.{fill_start, fill_end}
use Rattle.names.proofs.ranks.fill_ranks.Goals as goal

pub loop-n-init : goal.loop-n-init
loop-n-init c =
    (omega arith, fill_start _ _ c.requires.0 c.requires.1)

pub fill_rank-count-requires : goal.fill_rank-count-requires
fill_rank-count-requires c =
    (omega (arith, c.count_of-nodes.ensures.0), c.loop-n.invariant.1)

pub loop-n-preserved : goal.loop-n-preserved
loop-n-preserved c =
    (omega arith, c.fill_rank-count.ensures)

pub shape_of-facts : goal.shape_of-facts
shape_of-facts c =
    c.loop-n.invariant.1.linked.size ∙ sym c.requires.0

pub returns : goal.returns
returns c =
    fill_end _ _ _ _ c.args.script.now.within_layout (omega (arith, c.count_of-nodes.ensures.0)) c.loop-n.invariant.1
