use Rattle.interfaces.proofs.AgreementLaws.{agree_list, left_word, right_word, agree_left, agree_right, agree_both}
use Rattle.members.proofs.MemberLaws.{word_at}
use Rattle.subtypes.proofs.SubtypeLaws.{left_earlier, right_earlier}
use Rattle.script.specs.declared.Section.TheVariants.{Signatures as signatures}
use native.Mathlib.Omega.{arith}
use mathlib.Core.Path.{refl}
use Rattle.interfaces.proofs.agreement.join_agrees.Goals as goal

pub returns-then-form-ne1 : goal.returns-then-form-ne1
returns-then-form-ne1 c =
    λ m h. agree_list c.args.script.now.within_layout _ _ c.requires.1 c.record_word-form.ensures.0 c.if-form-ne1.true m

pub overflow_sub-first : goal.overflow_sub-first
overflow_sub-first c =
    (left_earlier c.args.script.now.within_layout _ _ c.requires.1 c.record_word-form.ensures.0 c.if-form-ne1.false _ c.record_word-left.ensures.0).first

pub bounds-table-left : goal.bounds-table-left
bounds-table-left c =
    omega (arith, (left_word c.args.script.now.within_layout _ _ c.requires.1 c.record_word-form.ensures.0 c.if-form-ne1.false c.requires.0.meanings _ c.record_word-left.ensures.0).0, c.requires.0.meanings.size)

pub returns-then-first-eq0 : goal.returns-then-first-eq0
returns-then-first-eq0 c =
    λ m h. agree_left c.args.script.now.within_layout _ _ c.requires.1 c.record_word-form.ensures.0 c.if-form-ne1.false h _ _ c.record_word-left.ensures.0 refl c.if-first-eq0.true

pub overflow_sub-second : goal.overflow_sub-second
overflow_sub-second c =
    (right_earlier c.args.script.now.within_layout _ _ c.requires.1 c.record_word-form.ensures.0 c.if-form-ne1.false _ c.record_word-right.ensures.0).first

pub bounds-table-right : goal.bounds-table-right
bounds-table-right c =
    omega (arith, (right_word c.args.script.now.within_layout _ _ c.requires.1 c.record_word-form.ensures.0 c.if-form-ne1.false c.requires.0.meanings _ c.record_word-right.ensures.0).0, c.requires.0.meanings.size)

pub returns-then-second-eq0 : goal.returns-then-second-eq0
returns-then-second-eq0 c =
    λ m h. agree_right c.args.script.now.within_layout _ _ c.requires.1 c.record_word-form.ensures.0 c.if-form-ne1.false h _ _ c.record_word-left.ensures.0 c.record_word-right.ensures.0 c.if-second-eq0.true

pub overflow_cast-first-2 : goal.overflow_cast-first-2
overflow_cast-first-2 c =
    omega (arith, c.args.script.now.within_layout.counts_are.within signatures, (word_at (left_word c.args.script.now.within_layout _ _ c.requires.1 c.record_word-form.ensures.0 c.if-form-ne1.false c.requires.0.meanings _ c.record_word-left.ensures.0).1 c.if-first-eq0.false).0)

pub overflow_cast-second-2 : goal.overflow_cast-second-2
overflow_cast-second-2 c =
    omega (arith, c.args.script.now.within_layout.counts_are.within signatures, (word_at (right_word c.args.script.now.within_layout _ _ c.requires.1 c.record_word-form.ensures.0 c.if-form-ne1.false c.requires.0.meanings _ c.record_word-right.ensures.0).1 c.if-second-eq0.false).0)

pub same_types-requires : goal.same_types-requires
same_types-requires c = (
  (word_at (left_word c.args.script.now.within_layout _ _ c.requires.1 c.record_word-form.ensures.0 c.if-form-ne1.false c.requires.0.meanings _ c.record_word-left.ensures.0).1 c.if-first-eq0.false).0,
  (word_at (right_word c.args.script.now.within_layout _ _ c.requires.1 c.record_word-form.ensures.0 c.if-form-ne1.false c.requires.0.meanings _ c.record_word-right.ensures.0).1 c.if-second-eq0.false).0,
)

pub returns : goal.returns
returns c =
    λ m h. agree_both c.args.script.now.within_layout _ _ c.requires.1 c.record_word-form.ensures.0 c.if-form-ne1.false h _ _ c.record_word-left.ensures.0 c.record_word-right.ensures.0 _ c.if-first-eq0.false c.if-second-eq0.false c.same_types.ensures
