use native.Mathlib.Omega.{arith}
use Rattle.script.specs.declared.Kind.TheVariants.{Let}
use Rattle.script.proofs.Reading.{first, second}
use Rattle.masks.proofs.FreeLaws.{part_of, part_within, fact_within, mask_let}
use Rattle.masks.proofs.masks.Gathering.let_mask.Goals as goal

pub overflow_mul-n : goal.overflow_mul-n
overflow_mul-n c =
    omega (arith, fact_within _ _ _ _ _ c.requires.0, c.requires.0.ranked.size)

pub name_mask-own-requires : goal.name_mask-own-requires
name_mask-own-requires c =
    omega (arith, fact_within _ _ _ _ _ c.requires.0)

pub part_mask-first-requires : goal.part_mask-first-requires
part_mask-first-requires c =
    (c.requires.0.there, omega arith, part_within _ c.requires.0.layout c.args.self.now.masks.now _ _ c.requires.0.size c.requires.0.there (part_of _ _ Let _ c.requires.1 first))

pub part_mask-body-requires : goal.part_mask-body-requires
part_mask-body-requires c =
    (c.requires.0.there, omega arith, part_within _ c.requires.0.layout c.args.self.now.masks.now _ _ c.requires.0.size c.requires.0.there (part_of _ _ Let _ c.requires.1 second))

pub returns : goal.returns
returns c =
    mask_let _ _ _ _ _ c.requires.0 _ _ _ c.requires.1 c.name_mask-own.ensures c.part_mask-first.ensures c.part_mask-body.ensures
