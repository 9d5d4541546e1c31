use native.Mathlib.Omega.{arith}
use Rattle.in_order.proofs.Answers.{after_yes}
use Rattle.wellformed.proofs.FormLaws as laws
use mathlib.Core.Path.{ap}
use mathlib.Core.Bool.{not}
use Rattle.wellformed.proofs.examine.bindings_sound.Goals as goal

pub returns-then-not-area_in_order : goal.returns-then-not-area_in_order
returns-then-not-area_in_order c =
    laws.bindings_no c.args.script.now.bytes.now c.args.block.now c.area_in_order.ensures (ap not c.if-not-area_in_order.true)

pub bindings_fit-requires : goal.bindings_fit-requires
bindings_fit-requires c =
    (laws.bindings_asked c.args.script.now.bytes.now c.args.block.now (omega arith) (λ i. omega (arith, c.fits-block i)) c.requires, (after_yes c.area_in_order.ensures (ap not c.if-not-area_in_order.false)).few)

pub returns : goal.returns
returns c =
    laws.bindings_are c.args.script.now.bytes.now c.args.block.now c.area_in_order.ensures _ (ap not c.if-not-area_in_order.false) c.bindings_fit.ensures
