use borrow.Author.Rules.{rules}
use native.Mathlib.Omega.{arith}
use Rattle.records.proofs.UseLaws.{parts_start, parts_next, parts_all}
use Rattle.records.proofs.nodes.count_nodes.Goals as goal

pub loop-i-init : goal.loop-i-init
loop-i-init c =
    (search rules, parts_start _ _)

pub count_parts-requires : goal.count_parts-requires
count_parts-requires c =
    omega (arith, c.count_of-n.ensures.0)

pub loop-i-preserved : goal.loop-i-preserved
loop-i-preserved c =
    (omega arith, parts_next _ _ _ _ _ c.loop-i.invariant.1 c.count_parts.ensures)

pub returns : goal.returns
returns c =
    parts_all _ _ _ _ _ c.loop-i.invariant.0 c.loop-i-test.false c.count_of-n.ensures.0 c.loop-i.invariant.1
