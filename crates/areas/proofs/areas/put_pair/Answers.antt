use native.Mathlib.Omega.{arith}
use Rattle.areas.proofs.Laws.{width_small, pair_put}
use Rattle.areas.proofs.areas.put_pair.Goals as goal

pub overflow_add-j : goal.overflow_add-j
overflow_add-j c =
    omega (arith, width_small c.args.a)

pub returns : goal.returns
returns c =
    let put2 = c.put-2 in
    let put = c.put in
    rw (put2.ensures, put.ensures) (pair_put _ c.args.a _ _ _ _)
