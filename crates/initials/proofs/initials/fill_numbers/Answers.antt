use mathlib.Core.Path.{sym, ◌∙◌}
use native.Mathlib.Omega.{arith}
use Rattle.script.specs.declared.Section.TheVariants.{Fields as fields}
use Rattle.subtypes.proofs.SubtypeLaws.{laid}
use Rattle.initials.proofs.InitialLaws as laws
use Rattle.initials.proofs.initials.fill_numbers.Goals as goal
use Rattle.initials.proofs.initials.fill_numbers.Goals.{then-record_word-int, else-record_word-int}

pub loop-k-init : goal.loop-k-init
loop-k-init c =
    (omega arith, laws.started)

pub overflow_add-from : goal.overflow_add-from
overflow_add-from c =
    omega (arith, c.args.script.now.within_layout.counts_are.within fields)

pub record_word-requires : goal.record_word-requires
record_word-requires c =
    (laid c.args.script.now.within_layout, omega arith, omega arith)

pub put_field-requires : goal.put_field-requires
put_field-requires c =
    (c.requires.2.room, omega arith)

pub loop-k-preserved : goal.loop-k-preserved
loop-k-preserved c = (
  omega arith,
  elim c.if-record_word-int.branch [
    | then-record_word-int w ↦ rw w.block-is (laws.starts_zero c.loop-k.invariant.1 _ _ (omega arith) c.record_word.ensures.0 c.int_of-int.ensures.0 w.if-record_word-int.true w.put_field.ensures)
    | else-record_word-int w ↦ rw w.block-is (laws.stays_null c.loop-k.invariant.1 _ _ (omega arith) c.record_word.ensures.0 c.int_of-int.ensures.0 w.if-record_word-int.false)
  ],
)

pub returns : goal.returns
returns c =
    laws.all_started c.loop-k.invariant.1 (omega arith)
