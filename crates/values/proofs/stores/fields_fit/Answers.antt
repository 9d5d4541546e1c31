use native.Mathlib.Omega.{arith}
use Rattle.script.specs.declared.Section.TheVariants.{Fields}
use Rattle.subtypes.proofs.SubtypeLaws.{laid}
use Rattle.values.proofs.StoreLaws.{fields_begun, fields_no, fields_more, fields_done}
use mathlib.Core.Path.{ap}
use mathlib.Core.Bool.{not}
use Rattle.values.proofs.stores.fields_fit.Goals as goal

pub loop-j-init : goal.loop-j-init
loop-j-init c =
    (omega arith, fields_begun _ _ _ _ _)

pub overflow_add-from : goal.overflow_add-from
overflow_add-from c =
    omega (arith, c.args.script.now.within_layout.counts_are.within Fields)

pub record_word-t-requires : goal.record_word-t-requires
record_word-t-requires c =
    (laid c.args.script.now.within_layout, omega arith, omega arith)

pub field-v-requires : goal.field-v-requires
field-v-requires c =
    (omega (arith, c.requires.0.objects.few), omega arith)

pub value_fits-requires : goal.value_fits-requires
value_fits-requires c =
    c.requires.0

pub returns-then-not-value_fits : goal.returns-then-not-value_fits
returns-then-not-value_fits c =
    fields_no _ _ _ _ _ _ c.loop-j.invariant.1 _ _ _ (omega arith) c.record_word-t.ensures.0 c.field-v.ensures.0 c.value_fits.ensures (ap not c.if-not-value_fits.true)

pub loop-j-preserved : goal.loop-j-preserved
loop-j-preserved c =
    (omega arith, fields_more _ _ _ _ _ _ c.loop-j.invariant.1 _ _ _ (omega arith) c.record_word-t.ensures.0 c.field-v.ensures.0 c.value_fits.ensures (ap not c.if-not-value_fits.false))

pub returns : goal.returns
returns c =
    fields_done _ _ _ _ _ _ c.loop-j.invariant.1 (omega arith)
