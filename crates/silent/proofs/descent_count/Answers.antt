use native.Mathlib.Omega.{arith}
use mathlib.Core.Path.{sym}
use Rattle.silent.proofs.CountLaws.{part_there, part_few, count_down}
use Rattle.silent.proofs.descent_count.Goals as goal

pub bounds-counts-p : goal.bounds-counts-p
bounds-counts-p c =
    omega (arith, part_there c.requires.0 c.requires.1, c.record_word-p.ensures.0)

pub overflow_add-result : goal.overflow_add-result
overflow_add-result c =
    let h = part_few c.requires.0 c.requires.1 in omega (arith, rw (sym c.record_word-p.ensures.0) at h)

pub returns : goal.returns
returns c =
    rw c.record_word-p.ensures.0 (count_down c.requires.0 c.requires.1)
