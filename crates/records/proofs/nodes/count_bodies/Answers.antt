use borrow.Author.Rules.{rules}
use native.Mathlib.Omega.{arith}
use Rattle.records.proofs.UseLaws.{bodies_start, bodies_next, bodies_all}
use Rattle.records.proofs.nodes.count_bodies.Goals as goal

pub loop-i-init : goal.loop-i-init
loop-i-init c =
    (search rules, bodies_start _ _)

pub record_word-requires : goal.record_word-requires
record_word-requires c =
    (omega (arith, c.count_of-n.ensures.0), omega arith)

pub loop-i-preserved : goal.loop-i-preserved
loop-i-preserved c =
    (omega arith, bodies_next _ _ _ _ _ _ c.record_word.ensures.0 c.loop-i.invariant.1 c.count_use.ensures)

pub returns : goal.returns
returns c =
    bodies_all _ _ _ _ _ c.loop-i.invariant.0 c.loop-i-test.false c.count_of-n.ensures.0 c.loop-i.invariant.1
