use native.Mathlib.Omega.{arith}
use Rattle.block.specs.Layout.{word_in}
use Rattle.areas.proofs.Laws.{width_small, null_read, ref_read, int_read}
use Rattle.areas.proofs.values.value.Goals as goal

pub overflow_add-j : goal.overflow_add-j
overflow_add-j c =
    omega (arith, width_small c.args.a)

pub returns-then-kind-eq-REF : goal.returns-then-kind-eq-REF
returns-then-kind-eq-REF c =
    let s = c.args in (ref_read (word_in s.block.now s.a s.i) s.j _ c.word-kind.ensures.0 _ c.if-kind-eq-REF.true c.word-o.ensures.0, c.word-o.ensures.1)

pub returns-then-kind-ne-INT : goal.returns-then-kind-ne-INT
returns-then-kind-ne-INT c =
    let s = c.args in (null_read (word_in s.block.now s.a s.i) s.j _ c.word-kind.ensures.0 c.if-kind-eq-REF.false c.if-kind-ne-INT.true, _)

pub overflow_add-j-2 : goal.overflow_add-j-2
overflow_add-j-2 c =
    omega (arith, width_small c.args.a)

pub overflow_add-j-3 : goal.overflow_add-j-3
overflow_add-j-3 c =
    omega (arith, width_small c.args.a)

pub returns : goal.returns
returns c =
    let s = c.args in
    int_read (word_in s.block.now s.a s.i) s.j _ c.word-kind.ensures.0 _ _ _ c.if-kind-ne-INT.false c.integer_of.ensures c.word-low.ensures c.word-high.ensures
