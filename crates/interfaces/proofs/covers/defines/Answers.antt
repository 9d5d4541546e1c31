use Rattle.interfaces.proofs.CoverLaws.{defines_none, defines_typed}
use Rattle.members.proofs.LookupLaws.{own_there}
use Rattle.script.specs.declared.Section.TheVariants.{Methods as methods}
use Rattle.subtypes.proofs.SubtypeLaws.{laid}
use native.Mathlib.Omega.{arith}
use Rattle.interfaces.proofs.covers.defines.Goals as goal

pub returns-in_default : goal.returns-in_default
returns-in_default c =
    defines_none c.args.script.now.within_layout _ _ _ c.requires.0 c.record_word-name.ensures.0 _ c.find_own.ensures c.in_default.is

pub types_at-requires : goal.types_at-requires
types_at-requires c =
    (laid c.args.script.now.within_layout, own_there c.args.script.now.within_layout methods _ _ _ _ c.requires.0 c.find_own.ensures c.in-Some.is, omega arith)

pub returns : goal.returns
returns c =
    defines_typed c.args.script.now.within_layout _ _ _ c.requires.0 c.record_word-name.ensures.0 _ c.find_own.ensures _ c.in-Some.is _ _ c.types_at.ensures c.types_at-2.ensures c.eq.ensures
