use Rattle.members.proofs.MemberLaws.{no_meanings, meanings_more, meanings_done}
use Rattle.script.specs.declared.Section.TheVariants.{Interfaces as interfaces}
use native.Mathlib.Omega.{arith}
use mathlib.Core.Path.{sym, ◌∙◌}
use Rattle.members.proofs.lookup.meanings.Goals as goal

pub loop-i-init : goal.loop-i-init
loop-i-init c =
    (omega arith, no_meanings _ _ _ c.requires.1)

pub meaning_of-word-requires : goal.meaning_of-word-requires
meaning_of-word-requires c =
    (omega arith, c.loop-i.invariant.1)

pub offset_bounds-table-i : goal.offset_bounds-table-i
offset_bounds-table-i c =
    omega (arith, c.requires.0, c.args.script.now.within_layout.counts_are.within interfaces)

pub bounds-table-i : goal.bounds-table-i
bounds-table-i c =
    omega (arith, c.loop-i.invariant.1.size, c.requires.0, c.args.script.now.within_layout.counts_are.within interfaces)

pub loop-i-preserved : goal.loop-i-preserved
loop-i-preserved c =
    (omega arith, meanings_more _ _ _ _ _ (omega (arith, c.loop-i.invariant.1.size, c.requires.0, c.args.script.now.within_layout.counts_are.within interfaces)) c.loop-i.invariant.1 c.meaning_of-word.ensures)

pub shape_of-table : goal.shape_of-table
shape_of-table c =
    c.loop-i.invariant.1.size ∙ sym c.requires.1

pub returns : goal.returns
returns c =
    meanings_done _ _ _ _ _ c.loop-i.invariant.0 c.loop-i-test.false c.loop-i.invariant.1
