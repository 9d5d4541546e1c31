use native.Mathlib.Omega.{arith}
use Rattle.areas.proofs.Laws.{object_added}
use Rattle.areas.proofs.objects.new_object.Goals as goal

pub returns : goal.returns
returns c p m is =
    let count = c.count-n in
    let put = c.put in
    let put_count = c.put_count in
    object_added _ p is _ _ count.result _ m count.ensures.0 (omega (arith, count.ensures.0, c.requires)) put.ensures put_count.ensures
