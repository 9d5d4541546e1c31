use mathlib.Core.Path.{sym, ◌∙◌}
use native.Mathlib.Omega.{arith}
use lib.ListN.{length-set}
use Rattle.script.specs.declared.Section.TheVariants.{Nodes as nodes}
use Rattle.sharing.proofs.SpanLaws.{span_none, span_end, span_ahead, span_step}
use Rattle.sharing.proofs.forks.fill_span.Goals as goal

pub loop-n-init : goal.loop-n-init
loop-n-init c =
    span_none _ _ _ _ _ c.count_of-n.ensures.0 c.requires.0 c.requires.2

pub mask_of-requires : goal.mask_of-requires
mask_of-requires c =
    span_ahead _ c.args.script.now.within_layout _ _ _ _ c.requires.1 _ _ c.loop-n.invariant (omega arith)

pub offset_bounds-masks-n : goal.offset_bounds-masks-n
offset_bounds-masks-n c =
    omega (arith, c.loop-n.invariant.within, c.args.script.now.within_layout.counts_are.within nodes)

pub bounds-masks-n : goal.bounds-masks-n
bounds-masks-n c =
    omega (arith, c.loop-n.invariant.within, c.args.script.now.within_layout.counts_are.within nodes, c.loop-n.invariant.masks_size)

pub overflow_mul-slot : goal.overflow_mul-slot
overflow_mul-slot c =
    omega (arith, c.loop-n.invariant.within, c.args.script.now.within_layout.counts_are.within nodes)

pub offset_bounds-facts-slot : goal.offset_bounds-facts-slot
offset_bounds-facts-slot c =
    omega (arith, c.loop-n.invariant.within, c.args.script.now.within_layout.counts_are.within nodes)

pub bounds-facts-slot : goal.bounds-facts-slot
bounds-facts-slot c =
    omega (arith, c.loop-n.invariant.within, c.args.script.now.within_layout.counts_are.within nodes, c.loop-n.invariant.like.size, c.requires.1.1.size)

pub mark_of-requires : goal.mark_of-requires
mark_of-requires c =
    (omega (arith, c.loop-n.invariant.within), simp length-set c.loop-n.invariant.masks_size)

pub offset_bounds-facts-slot-in-loop-n : goal.offset_bounds-facts-slot-in-loop-n
offset_bounds-facts-slot-in-loop-n c =
    omega (arith, c.loop-n.invariant.within, c.args.script.now.within_layout.counts_are.within nodes)

pub bounds-facts-slot-in-loop-n : goal.bounds-facts-slot-in-loop-n
bounds-facts-slot-in-loop-n c =
    omega (arith, c.loop-n.invariant.within, c.args.script.now.within_layout.counts_are.within nodes, c.loop-n.invariant.like.size, c.requires.1.1.size)

pub loop-n-preserved : goal.loop-n-preserved
loop-n-preserved c =
    span_step _ c.args.script.now.within_layout _ _ _ _ c.requires.1 _ _ c.loop-n.invariant (omega arith) _ _ c.mask_of.ensures c.mark_of.ensures.by_index c.mark_of.ensures.value

pub shape_of-masks : goal.shape_of-masks
shape_of-masks c =
    c.loop-n.invariant.masks_size ∙ sym c.requires.0

pub shape_of-facts : goal.shape_of-facts
shape_of-facts c =
    c.loop-n.invariant.like.size

pub returns : goal.returns
returns c =
    span_end _ _ _ _ _ _ c.loop-n.invariant c.loop-n-test.false
