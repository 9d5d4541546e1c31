use borrow.Author.Tests.{not-true, not-false}
use lib.ListN.{length-set}
use mathlib.Core.Bool.{not}
use mathlib.Core.Path.{ap, sym, ◌∙◌}
use native.Mathlib.Omega.{arith}
use Rattle.script.specs.declared.Section.TheVariants.{Interfaces as interfaces}
use Rattle.subtypes.proofs.SubtypeLaws.{left_earlier, right_earlier, earlier_interface}
use Rattle.subtypes.proofs.SubtypeLaws.{laid}
use Rattle.interfaces.proofs.CoverLaws.{cover_marked, cover_list, cover_left, cover_right, cover_more}
use Rattle.interfaces.proofs.covers.+covers.Goals as goal

pub overflow_sub-i : goal.overflow_sub-i
overflow_sub-i t c =
    omega (arith, c.requires.1.first)

pub bounds-marks-i : goal.bounds-marks-i
bounds-marks-i t c =
    omega (arith, c.requires.1.last, c.requires.2.size, c.args.script.now.within_layout.counts_are.within interfaces)

pub returns-then-mark-eq1 : goal.returns-then-mark-eq1
returns-then-mark-eq1 t c =
    (cover_marked c.args.script.now.within_layout _ _ c.requires.1 _ c.requires.2 c.if-mark-eq1.true, c.requires.2)

pub record_word-form-requires : goal.record_word-form-requires
record_word-form-requires t c =
    (laid c.args.script.now.within_layout, omega (arith, c.requires.1.first, c.requires.1.last), omega arith)

pub covers_list-requires : goal.covers_list-requires
covers_list-requires t c =
    (c.requires.0, omega (arith, c.requires.1.first, c.requires.1.last), λ e. c.if-form-ne1.true (c.record_word-form.ensures.0 ∙ e))

pub returns-then-not-covers_list : goal.returns-then-not-covers_list
returns-then-not-covers_list t c =
    (cover_list c.args.script.now.within_layout _ _ c.requires.1 _ _ c.covers_list.ensures (not-true _ (ap not c.if-not-covers_list.true)), c.requires.2)

pub bounds-marks-i-then-form-ne1 : goal.bounds-marks-i-then-form-ne1
bounds-marks-i-then-form-ne1 t c =
    omega (arith, c.requires.1.last, c.requires.2.size, c.args.script.now.within_layout.counts_are.within interfaces)

pub shape_of-marks-then-form-ne1 : goal.shape_of-marks-then-form-ne1
shape_of-marks-then-form-ne1 t c =
    simp length-set

pub returns-then-form-ne1 : goal.returns-then-form-ne1
returns-then-form-ne1 t c =
    let d = cover_list c.args.script.now.within_layout _ _ c.requires.1 _ _ c.covers_list.ensures (not-false _ (ap not c.if-not-covers_list.false)) in (d, cover_more c.args.script.now.within_layout _ _ c.requires.1 _ c.requires.2 d)

pub record_word-left-requires : goal.record_word-left-requires
record_word-left-requires t c =
    (laid c.args.script.now.within_layout, omega (arith, c.requires.1.first, c.requires.1.last), omega arith)

pub covers-requires : goal.covers-requires
covers-requires t c =
    let l = earlier_interface c.requires.1 (left_earlier c.args.script.now.within_layout _ _ (omega (arith, c.requires.1.first, c.requires.1.last)) c.record_word-form.ensures.0 c.if-form-ne1.false _ c.record_word-left.ensures.0) in (omega (arith, l.1), (c.requires.0, l.0, c.requires.2))

pub returns-then-not-covers : goal.returns-then-not-covers
returns-then-not-covers t c =
    (cover_left c.args.script.now.within_layout _ _ c.requires.1 _ c.record_word-form.ensures.0 c.if-form-ne1.false _ _ c.record_word-left.ensures.0 c.covers.ensures.0 (not-true _ (ap not c.if-not-covers.true)), c.covers.ensures.1)

pub record_word-right-requires : goal.record_word-right-requires
record_word-right-requires t c =
    (laid c.args.script.now.within_layout, omega (arith, c.requires.1.first, c.requires.1.last), omega arith)

pub covers-requires-2 : goal.covers-requires-2
covers-requires-2 t c =
    let r = earlier_interface c.requires.1 (right_earlier c.args.script.now.within_layout _ _ (omega (arith, c.requires.1.first, c.requires.1.last)) c.record_word-form.ensures.0 c.if-form-ne1.false _ c.record_word-right.ensures.0) in (omega (arith, r.1), (c.requires.0, r.0, c.covers.ensures.1))

pub returns-then-not-covers-2 : goal.returns-then-not-covers-2
returns-then-not-covers-2 t c =
    (cover_right c.args.script.now.within_layout _ _ c.requires.1 _ c.record_word-form.ensures.0 c.if-form-ne1.false _ _ c.record_word-left.ensures.0 c.covers.ensures.0 _ _ _ (not-false _ (ap not c.if-not-covers.false)) c.record_word-right.ensures.0 c.covers-2.ensures.0 (not-true _ (ap not c.if-not-covers-2.true)), c.covers-2.ensures.1)

pub bounds-marks-i-2 : goal.bounds-marks-i-2
bounds-marks-i-2 t c =
    omega (arith, c.requires.1.last, c.covers-2.ensures.1.size, c.args.script.now.within_layout.counts_are.within interfaces)

pub shape_of-marks : goal.shape_of-marks
shape_of-marks t c =
    simp length-set (c.covers-2.ensures.1.size ∙ sym c.requires.2.size)

pub returns : goal.returns
returns t c =
    let d = cover_right c.args.script.now.within_layout _ _ c.requires.1 _ c.record_word-form.ensures.0 c.if-form-ne1.false _ _ c.record_word-left.ensures.0 c.covers.ensures.0 _ _ _ (not-false _ (ap not c.if-not-covers.false)) c.record_word-right.ensures.0 c.covers-2.ensures.0 (not-false _ (ap not c.if-not-covers-2.false)) in (d, cover_more c.args.script.now.within_layout _ _ c.requires.1 _ c.covers-2.ensures.1 d)
