use native.Mathlib.Omega.{arith}
use Rattle.script.specs.declared.Kind.TheVariants.{Fork}
use Rattle.script.proofs.Reading.{first, second, third}
use Rattle.masks.proofs.FreeLaws.{part_of, part_within, mask_fork}
use Rattle.masks.proofs.masks.Gathering.fork_mask.Goals as goal

pub part_mask-a-requires : goal.part_mask-a-requires
part_mask-a-requires c =
    (c.requires.0.there, omega arith, part_within _ c.requires.0.layout c.args.self.now.masks.now _ _ c.requires.0.size c.requires.0.there (part_of _ _ Fork _ c.requires.1 first))

pub part_mask-b-requires : goal.part_mask-b-requires
part_mask-b-requires c =
    (c.requires.0.there, omega arith, part_within _ c.requires.0.layout c.args.self.now.masks.now _ _ c.requires.0.size c.requires.0.there (part_of _ _ Fork _ c.requires.1 second))

pub part_mask-c-requires : goal.part_mask-c-requires
part_mask-c-requires c =
    (c.requires.0.there, omega arith, part_within _ c.requires.0.layout c.args.self.now.masks.now _ _ c.requires.0.size c.requires.0.there (part_of _ _ Fork _ c.requires.1 third))

pub returns : goal.returns
returns c =
    mask_fork _ _ _ _ _ c.requires.0 _ _ _ c.requires.1 c.part_mask-a.ensures c.part_mask-b.ensures c.part_mask-c.ensures
