use Rattle.subtypes.proofs.SubtypeLaws.{laid}
use Rattle.members.proofs.LookupLaws.{own_ends, own_small, own_found}
use native.Mathlib.Omega.{arith}
use Rattle.members.proofs.lookup.find_own.Goals as goal

pub overflow_add-from : goal.overflow_add-from
overflow_add-from c =
    omega (arith, own_small c.args.script.now.within_layout _ _ c.requires _ _ c.first_of-from.ensures c.own_count-count.ensures.0)

pub find_name-requires : goal.find_name-requires
find_name-requires c =
    (laid c.args.script.now.within_layout, own_ends c.args.script.now.within_layout _ _ c.requires _ _ c.first_of-from.ensures c.own_count-count.ensures.0)

pub returns : goal.returns
returns c =
    own_found c.args.script.now.within_layout _ _ c.requires _ _ c.first_of-from.ensures c.own_count-count.ensures.0 _ _ c.find_name.ensures
