use lib.IntN.{pos, negsuc, ◌-ℤ◌}
use lib.Signed.{lt_z}
use Rattle.integers.proofs.Signed.{read, read_small, Asked, asked_neg, asked_pos, plain}
use Rattle.integers.proofs.is_outside.Goals as goal

pub overflow_sub-result : goal.overflow_sub-result
overflow_sub-result c =
    let below : Asked (read c.args.x) (read c.args.y) (negsuc 2147483647 -ℤ read c.args.y) (lt_z (read c.args.x) (read (negsuc 2147483647 -ℤ read c.args.y))) = asked_neg (read c.args.x) (read c.args.y) (read_small c.ranges.x) (read_small c.ranges.y) c.if-y-lt0.true in
    record { sfits = (below).fits }

pub returns-then-y-lt0 : goal.returns-then-y-lt0
returns-then-y-lt0 c =
    let below : Asked (read c.args.x) (read c.args.y) (negsuc 2147483647 -ℤ read c.args.y) (lt_z (read c.args.x) (read (negsuc 2147483647 -ℤ read c.args.y))) = asked_neg (read c.args.x) (read c.args.y) (read_small c.ranges.x) (read_small c.ranges.y) c.if-y-lt0.true in
    plain c.ranges.x c.ranges.y (below).answer

pub overflow_sub-result-2 : goal.overflow_sub-result-2
overflow_sub-result-2 c =
    let above : Asked (read c.args.x) (read c.args.y) (pos 2147483647 -ℤ read c.args.y) (lt_z (read (pos 2147483647 -ℤ read c.args.y)) (read c.args.x)) = asked_pos (read c.args.x) (read c.args.y) (read_small c.ranges.x) (read_small c.ranges.y) c.if-y-lt0.false in
    record { sfits = (above).fits }

pub returns : goal.returns
returns c =
    let above : Asked (read c.args.x) (read c.args.y) (pos 2147483647 -ℤ read c.args.y) (lt_z (read (pos 2147483647 -ℤ read c.args.y)) (read c.args.x)) = asked_pos (read c.args.x) (read c.args.y) (read_small c.ranges.x) (read_small c.ranges.y) c.if-y-lt0.false in
    plain c.ranges.x c.ranges.y (above).answer
