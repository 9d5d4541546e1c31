use native.Mathlib.Omega.{arith}
use mathlib.Core.Path.{sym, ◌∙◌}
use lib.ListN.{length-set}
use Rattle.subtypes.proofs.SubtypeLaws.{left_earlier, right_earlier, earlier_interface, record_there, record_small}
use Rattle.subtypes.proofs.RowLaws.{row_there, walked_list, walked_join}
use Rattle.subtypes.proofs.SubtypeLaws.{laid}
use Rattle.subtypes.proofs.subtyping.+climb.Goals as goal

pub overflow_sub-i : goal.overflow_sub-i
overflow_sub-i t c =
    omega (arith, c.requires.1.first)

pub has_bit-requires : goal.has_bit-requires
has_bit-requires t c =
    let p = c.requires in (p.2.size, record_small p.0 p.1, record_small p.0 p.1)

pub returns-then-has_bit : goal.returns-then-has_bit
returns-then-has_bit t c =
    let p = c.requires in row_there p.0 _ (record_there p.1) _ _ p.2 c.has_bit.ensures c.if-has_bit.true

pub record_word-form-requires : goal.record_word-form-requires
record_word-form-requires t c =
    let p = c.requires in (laid p.0, record_there p.1, omega arith)

pub mark-requires : goal.mark-requires
mark-requires t c =
    let p = c.requires in (p.2.size, record_small p.0 p.1)

pub shape_of-rows-then-form-ne1 : goal.shape_of-rows-then-form-ne1
shape_of-rows-then-form-ne1 t c =
    rw c.mark.ensures (length-set c.args.rows.now _ _)

pub returns-then-form-ne1 : goal.returns-then-form-ne1
returns-then-form-ne1 t c =
    let p = c.requires in rw c.mark.ensures (walked_list p.0 _ (record_there p.1) _ c.record_word-form.ensures.0 _ _ p.2 c.has_bit.ensures c.if-has_bit.false (λ e. omega (arith, c.if-form-ne1.true)))

pub record_word-left-requires : goal.record_word-left-requires
record_word-left-requires t c =
    let p = c.requires in (laid p.0, record_there p.1, omega arith)

pub overflow_cast-left : goal.overflow_cast-left
overflow_cast-left t c =
    let p = c.requires in let l = left_earlier p.0 _ _ (record_there p.1) c.record_word-form.ensures.0 c.if-form-ne1.false _ c.record_word-left.ensures.0 in omega (arith, l.before, record_small p.0 p.1)

pub climb-requires : goal.climb-requires
climb-requires t c =
    let p = c.requires in let l = earlier_interface p.1 (left_earlier p.0 _ _ (record_there p.1) c.record_word-form.ensures.0 c.if-form-ne1.false _ c.record_word-left.ensures.0) in (omega (arith, l.1), (p.0, l.0, p.2))

pub record_word-right-requires : goal.record_word-right-requires
record_word-right-requires t c =
    let p = c.requires in (laid p.0, record_there p.1, omega arith)

pub overflow_cast-right : goal.overflow_cast-right
overflow_cast-right t c =
    let p = c.requires in let r = right_earlier p.0 _ _ (record_there p.1) c.record_word-form.ensures.0 c.if-form-ne1.false _ c.record_word-right.ensures.0 in omega (arith, r.before, record_small p.0 p.1)

pub climb-requires-2 : goal.climb-requires-2
climb-requires-2 t c =
    let p = c.requires in let r = earlier_interface p.1 (right_earlier p.0 _ _ (record_there p.1) c.record_word-form.ensures.0 c.if-form-ne1.false _ c.record_word-right.ensures.0) in (omega (arith, r.1), (p.0, r.0, c.climb.ensures.rows))

pub overflow_sub-left : goal.overflow_sub-left
overflow_sub-left t c =
    let p = c.requires in (left_earlier p.0 _ _ (record_there p.1) c.record_word-form.ensures.0 c.if-form-ne1.false _ c.record_word-left.ensures.0).first

pub overflow_sub-right : goal.overflow_sub-right
overflow_sub-right t c =
    let p = c.requires in (right_earlier p.0 _ _ (record_there p.1) c.record_word-form.ensures.0 c.if-form-ne1.false _ c.record_word-right.ensures.0).first

pub join-requires : goal.join-requires
join-requires t c =
    let p = c.requires in let l = left_earlier p.0 _ _ (record_there p.1) c.record_word-form.ensures.0 c.if-form-ne1.false _ c.record_word-left.ensures.0 in let r = right_earlier p.0 _ _ (record_there p.1) c.record_word-form.ensures.0 c.if-form-ne1.false _ c.record_word-right.ensures.0 in (c.climb-2.ensures.rows.size, record_small p.0 p.1, omega (arith, l.first, l.before), omega (arith, r.first, r.before))

pub mark-requires-2 : goal.mark-requires-2
mark-requires-2 t c =
    let p = c.requires in (c.join.ensures.size ∙ c.climb-2.ensures.rows.size, record_small p.0 p.1)

pub shape_of-rows : goal.shape_of-rows
shape_of-rows t c =
    rw c.mark-2.ensures (length-set c.join.new.rows _ _ ∙ c.join.ensures.size ∙ c.climb-2.ensures.rows.size ∙ sym c.requires.2.size)

pub returns : goal.returns
returns t c =
    let p = c.requires in rw c.mark-2.ensures (walked_join p.0 _ (record_there p.1) _ c.record_word-form.ensures.0 _ _ _ _ _ _ c.if-form-ne1.false c.record_word-left.ensures.0 c.record_word-right.ensures.0 (left_earlier p.0 _ _ (record_there p.1) c.record_word-form.ensures.0 c.if-form-ne1.false _ c.record_word-left.ensures.0) (right_earlier p.0 _ _ (record_there p.1) c.record_word-form.ensures.0 c.if-form-ne1.false _ c.record_word-right.ensures.0) c.climb.ensures c.climb-2.ensures c.join.ensures)
