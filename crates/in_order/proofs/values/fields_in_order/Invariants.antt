use Rattle.block.specs.declared.Area.TheVariants.{Objects}
use Rattle.block.specs.Layout.{word_in}
use Rattle.representation.specs.InOrder.{FieldsInOrder}
use Rattle.in_order.proofs.values.fields_in_order.Given as goal

abbrev pub invariant-loop-k : goal.invariant-loop-k
invariant-loop-k l = FieldsInOrder (word_in l.block Objects l.i) l.k
