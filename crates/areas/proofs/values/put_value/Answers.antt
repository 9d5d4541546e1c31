use native.Mathlib.Omega.{arith}
use Rattle.areas.proofs.Laws.{width_small, value_put}
use Rattle.areas.proofs.values.put_value.Goals as goal

pub overflow_add-j : goal.overflow_add-j
overflow_add-j c =
    omega (arith, width_small c.args.a)

pub returns : goal.returns
returns c =
    value_put _ _ _ c.args.a _ _ c.args.v _ c.value_words-w.ensures c.put_pair.ensures c.put.ensures
