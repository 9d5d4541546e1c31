use Rattle.script.specs.declared.Section.TheVariants.{Interfaces as interfaces}
use native.Mathlib.Omega.{arith}
use Rattle.members.proofs.lookup.meaning_in.Goals as goal

pub overflow_add-i : goal.overflow_add-i
overflow_add-i c =
    omega (arith, c.requires, c.args.script.now.within_layout.counts_are.within interfaces)

pub offset_bounds-table-i : goal.offset_bounds-table-i
offset_bounds-table-i c =
    omega (arith, c.requires, c.args.script.now.within_layout.counts_are.within interfaces)

pub bounds-table-i : goal.bounds-table-i
bounds-table-i c =
    omega (arith, c.requires, c.args.script.now.within_layout.counts_are.within interfaces)

pub returns : goal.returns
returns c =
    c.meanings.ensures.holds _ (omega arith)
