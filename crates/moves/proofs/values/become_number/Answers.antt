use native.Mathlib.Omega.{arith}
use Rattle.moves.proofs.Laws as laws
use Rattle.moves.proofs.values.become_number.Goals as goal

pub returns : goal.returns
returns c =
    λ x st a e fs s. rw (← laws.constant_read {low = c.args.low} {high = c.args.high} (omega (arith, c.ranges.low)) (omega (arith, c.ranges.high)) c.integer_of-z.ensures) (c.gives.ensures _ x st a e fs s)
