use Rattle.integers.proofs.Signed.{outside_is, sum_fits, sum_is}
use Rattle.integers.proofs.sum_of.Goals as goal

pub returns-then-is_outside : goal.returns-then-is_outside
returns-then-is_outside c =
    outside_is c.ranges.x c.ranges.y c.is_outside.ensures c.if-is_outside.true

pub overflow_add-sum : goal.overflow_add-sum
overflow_add-sum c =
    sum_fits c.ranges.x c.ranges.y c.is_outside.ensures c.if-is_outside.false

pub returns : goal.returns
returns c =
    sum_is c.ranges.x c.ranges.y c.is_outside.ensures c.if-is_outside.false
