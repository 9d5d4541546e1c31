use mathlib.Core.Path.{refl, ◌∙◌}
use Rattle.byte_table.proofs.RangeLaws.{range_on, range_done}
use Rattle.byte_table.proofs.put_range.Goals as goal

pub loop-b-init : goal.loop-b-init
loop-b-init c =
    refl

pub loop-b-preserved : goal.loop-b-preserved
loop-b-preserved c =
    range_on _ _ _ _ c.loop-b-test.true ∙ c.loop-b.invariant

pub returns : goal.returns
returns c =
    range_done _ _ _ _ c.loop-b-test.false ∙ c.loop-b.invariant
