use native.Mathlib.Omega.{arith}
use Rattle.areas.proofs.Laws.{binding_added}
use Rattle.areas.proofs.objects.add_binding.Goals as goal

pub returns : goal.returns
returns c p is =
    let count = c.count-n in
    binding_added _ p is _ _ _ _ count.result (record { name = c.args.name; type = c.args.t; value = c.args.value; link = c.args.link }) count.ensures.0
    (omega (arith, count.ensures.0, c.requires)) c.put_pair.ensures c.put_value.ensures c.put.ensures c.put_count.ensures
