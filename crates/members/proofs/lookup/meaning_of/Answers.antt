use Rattle.members.proofs.MemberLaws.{meaning_none, meaning_own, meaning_left, meaning_right}
use Rattle.members.proofs.LookupLaws.{own_there}
use Rattle.subtypes.proofs.SubtypeLaws.{left_earlier, right_earlier}
use Rattle.script.specs.declared.Section.TheVariants.{Interfaces as interfaces, Signatures as signatures}
use native.Mathlib.Omega.{arith}
use mathlib.Core.Path.{refl}
use Rattle.members.proofs.lookup.meaning_of.Goals as goal

pub find_own-requires : goal.find_own-requires
find_own-requires c =
    c.requires.0

pub returns-in_default : goal.returns-in_default
returns-in_default c =
    meaning_none c.args.script.now.within_layout _ _ _ c.requires.0 c.record_word-form.ensures.0 c.if-form-ne1.true _ c.find_own.ensures c.in_default.is

pub overflow_add-result : goal.overflow_add-result
overflow_add-result c =
    omega (arith, own_there c.args.script.now.within_layout signatures _ _ _ _ c.requires.0 c.find_own.ensures c.in-Some.is, c.args.script.now.within_layout.counts_are.within signatures)

pub overflow_cast-result : goal.overflow_cast-result
overflow_cast-result c =
    omega (arith, own_there c.args.script.now.within_layout signatures _ _ _ _ c.requires.0 c.find_own.ensures c.in-Some.is, c.args.script.now.within_layout.counts_are.within signatures)

pub returns-then-form-ne1 : goal.returns-then-form-ne1
returns-then-form-ne1 c =
    meaning_own c.args.script.now.within_layout _ _ _ c.requires.0 c.record_word-form.ensures.0 c.if-form-ne1.true _ c.find_own.ensures _ c.in-Some.is

pub overflow_sub-word : goal.overflow_sub-word
overflow_sub-word c =
    (left_earlier c.args.script.now.within_layout _ _ c.requires.0 c.record_word-form.ensures.0 c.if-form-ne1.false _ c.record_word-left.ensures.0).first

pub bounds-table-left : goal.bounds-table-left
bounds-table-left c =
    omega (arith, (left_earlier c.args.script.now.within_layout _ _ c.requires.0 c.record_word-form.ensures.0 c.if-form-ne1.false _ c.record_word-left.ensures.0).before, c.args.script.now.within_layout.counts_are.within interfaces, c.requires.0, c.requires.1.size)

pub returns-then-word-ne0 : goal.returns-then-word-ne0
returns-then-word-ne0 c =
    meaning_left c.args.script.now.within_layout _ _ _ c.requires.0 c.record_word-form.ensures.0 c.if-form-ne1.false _ c.requires.1 _ _ c.record_word-left.ensures.0 refl c.if-word-ne0.true

pub overflow_sub-result : goal.overflow_sub-result
overflow_sub-result c =
    (right_earlier c.args.script.now.within_layout _ _ c.requires.0 c.record_word-form.ensures.0 c.if-form-ne1.false _ c.record_word-right.ensures.0).first

pub bounds-table-right : goal.bounds-table-right
bounds-table-right c =
    omega (arith, (right_earlier c.args.script.now.within_layout _ _ c.requires.0 c.record_word-form.ensures.0 c.if-form-ne1.false _ c.record_word-right.ensures.0).before, c.args.script.now.within_layout.counts_are.within interfaces, c.requires.0, c.requires.1.size)

pub returns : goal.returns
returns c =
    meaning_right c.args.script.now.within_layout _ _ _ c.requires.0 c.record_word-form.ensures.0 c.if-form-ne1.false _ c.requires.1 _ _ c.record_word-left.ensures.0 c.record_word-right.ensures.0 c.if-word-ne0.false
