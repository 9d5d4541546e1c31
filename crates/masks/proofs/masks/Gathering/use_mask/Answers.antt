use native.Mathlib.Omega.{arith}
use Rattle.masks.proofs.FreeLaws.{part_within, fact_within, mask_use}
use Rattle.masks.proofs.masks.Gathering.use_mask.Goals as goal

pub overflow_mul-n : goal.overflow_mul-n
overflow_mul-n c =
    omega (arith, fact_within _ _ _ _ _ c.requires.ahead.0, c.requires.ahead.0.ranked.size)

pub name_mask-requires : goal.name_mask-requires
name_mask-requires c =
    omega (arith, fact_within _ _ _ _ _ c.requires.ahead.0)

pub part_mask-requires : goal.part_mask-requires
part_mask-requires c =
    let h = c.requires.ahead.0 in
    (h.there, c.requires.j_bound.0, part_within _ h.layout c.args.self.now.masks.now _ _ h.size h.there c.requires.j_bound.1)

pub returns : goal.returns
returns c =
    mask_use _ _ _ _ _ c.requires.ahead.0 _ _ _ c.requires.ahead.1 c.requires.j_bound.1 c.name_mask.ensures c.part_mask.ensures
