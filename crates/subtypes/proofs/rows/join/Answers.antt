use native.Mathlib.Omega.{arith}
use Rattle.subtypes.proofs.RowLaws.{joins_none, joins_more, joins_all}
use Rattle.subtypes.proofs.rows.join.Goals as goal

pub loop-w-init : goal.loop-w-init
loop-w-init c =
    joins_none _ _ _ _

pub bounds-rows-left : goal.bounds-rows-left
bounds-rows-left c =
    omega (arith, c.loop-w.invariant.size)

pub bounds-rows-right : goal.bounds-rows-right
bounds-rows-right c =
    omega (arith, c.loop-w.invariant.size)

pub bounds-rows-at : goal.bounds-rows-at
bounds-rows-at c =
    omega (arith, c.loop-w.invariant.size)

pub loop-w-preserved : goal.loop-w-preserved
loop-w-preserved c =
    joins_more _ _ _ _ _ _ c.requires.0 c.requires.1 c.requires.2 c.requires.3 c.loop-w-test.true c.loop-w.invariant

pub shape_of-rows : goal.shape_of-rows
shape_of-rows c =
    c.loop-w.invariant.size

pub returns : goal.returns
returns c =
    joins_all c.loop-w-test.false c.loop-w.invariant
