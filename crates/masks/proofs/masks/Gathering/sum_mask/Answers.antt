use native.Mathlib.Omega.{arith}
use Rattle.masks.proofs.FreeLaws.{fact_within, mask_sum}
use Rattle.masks.proofs.masks.Gathering.sum_mask.Goals as goal

pub overflow_mul-n : goal.overflow_mul-n
overflow_mul-n c =
    omega (arith, fact_within _ _ _ _ _ c.requires.0, c.requires.0.ranked.size)

pub name_mask-left-requires : goal.name_mask-left-requires
name_mask-left-requires c =
    omega (arith, fact_within _ _ _ _ _ c.requires.0)

pub name_mask-requires : goal.name_mask-requires
name_mask-requires c =
    omega (arith, fact_within _ _ _ _ _ c.requires.0)

pub returns : goal.returns
returns c =
    mask_sum _ _ _ _ _ c.requires.0 _ _ c.requires.1 c.name_mask-left.ensures c.name_mask.ensures
