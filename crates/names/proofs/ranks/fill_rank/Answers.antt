use mathlib.Core.Path.{refl, sym, ◌∙◌}
use native.Mathlib.Omega.{arith}
use Rattle.script.specs.declared.Section.TheVariants.{Nodes as nodes}
use Rattle.names.proofs.KindLaws.{few_names, slot_stands}
use Rattle.names.proofs.FillLaws.{fill_first, fill_next, fill_last}
use Rattle.names.proofs.ranks.fill_rank.Goals as goal

pub loop-j-init : goal.loop-j-init
loop-j-init c =
    (omega arith, fill_first _ _ _ _ c.requires.1)

pub overflow_mul-n : goal.overflow_mul-n
overflow_mul-n c =
    omega (arith, c.args.script.now.within_layout.counts_are.within nodes, c.requires.0)

pub overflow_add-n : goal.overflow_add-n
overflow_add-n c =
    omega (arith, c.args.script.now.within_layout.counts_are.within nodes, c.requires.0, few_names _ _ c.names_at-names.ensures)

pub fill_slot-count-requires : goal.fill_slot-count-requires
fill_slot-count-requires c =
    (slot_stands _ _ _ c.requires.0 _ _ refl c.names_at-names.ensures c.loop-j-test.true, c.loop-j.invariant.1)

pub loop-j-preserved : goal.loop-j-preserved
loop-j-preserved c =
    (omega arith, fill_next _ _ _ _ _ c.fill_slot-count.ensures)

pub shape_of-facts : goal.shape_of-facts
shape_of-facts c =
    c.loop-j.invariant.1.linked.size ∙ sym c.requires.1.linked.size

pub returns : goal.returns
returns c =
    fill_last _ _ _ _ c.args.script.now.within_layout c.requires.0 _ _ _ refl c.names_at-names.ensures c.loop-j.invariant.0 c.loop-j-test.false c.loop-j.invariant.1
