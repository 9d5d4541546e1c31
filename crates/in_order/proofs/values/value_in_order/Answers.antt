use native.Mathlib.Omega.{arith}
use Rattle.block.specs.Layout.{word_in}
use Rattle.areas.proofs.Laws.{width_small}
use Rattle.in_order.proofs.ValueLaws as laws
use Rattle.in_order.proofs.values.value_in_order.Goals as goal

pub overflow_add-j : goal.overflow_add-j
overflow_add-j c =
    omega (arith, width_small c.args.a)

pub overflow_add-j-2 : goal.overflow_add-j-2
overflow_add-j-2 c =
    omega (arith, width_small c.args.a)

pub returns-in-2 : goal.returns-in-2
returns-in-2 c =
    let s = c.args in laws.number_words (word_in s.block.now s.a s.i) s.j _ _ _ c.word.ensures.0 c.word-low.ensures c.word-high.ensures (omega arith)

pub returns-in-1 : goal.returns-in-1
returns-in-1 c =
    let s = c.args in laws.an_object (word_in s.block.now s.a s.i) s.j _ _ _ c.word.ensures.0 c.word-low.ensures c.word-high.ensures c.in-1.is

pub returns-then-low-eq0 : goal.returns-then-low-eq0
returns-then-low-eq0 c =
    let s = c.args in laws.a_null (word_in s.block.now s.a s.i) s.j _ _ _ c.word.ensures.0 c.word-low.ensures c.word-high.ensures c.in-0.is c.if-low-eq0.true

pub returns-else-low-eq0 : goal.returns-else-low-eq0
returns-else-low-eq0 c =
    let s = c.args in laws.low_there (word_in s.block.now s.a s.i) s.j _ _ _ c.word.ensures.0 c.word-low.ensures c.word-high.ensures c.in-0.is c.if-low-eq0.false

pub returns-in_default : goal.returns-in_default
returns-in_default c =
    let s = c.args in laws.no_kind (word_in s.block.now s.a s.i) s.j _ _ _ c.word.ensures.0 c.word-low.ensures c.word-high.ensures (grind arith) (grind arith) (grind arith)
