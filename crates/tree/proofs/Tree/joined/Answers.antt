use borrow.Enum.Refused.{opened}
use mathlib.Core.Path.{refl}
use native.Mathlib.Omega.{arith}
use Rattle.tree.proofs.Parts.{used_length}
use Rattle.tree.proofs.Changes.{joins, joins_none}
use Rattle.tree.proofs.Tree.joined.Goals as goal

pub offset_bounds-self-i : goal.offset_bounds-self-i
offset_bounds-self-i c =
    let l = used_length _ c.requires.0 in omega (arith, l, c.requires.0.small)

pub bounds-self-i : goal.bounds-self-i
bounds-self-i c =
    let l = used_length _ c.requires.0 in omega (arith, l, c.requires.0.small)

pub returns-in_default : goal.returns-in_default
returns-in_default c =
    joins_none _ _ c.requires.0 (opened c.in_default.in_default-own.keys2)

pub returns : goal.returns
returns c =
    joins _ _ _ _ _ _ c.requires.0 refl c.in-Join.is c.replaced.ensures
