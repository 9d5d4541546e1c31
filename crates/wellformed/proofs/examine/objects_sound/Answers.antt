use native.Mathlib.Omega.{arith}
use Rattle.in_order.proofs.Answers.{after_yes}
use Rattle.wellformed.proofs.FormLaws as laws
use mathlib.Core.Path.{ap}
use mathlib.Core.Bool.{not}
use Rattle.wellformed.proofs.examine.objects_sound.Goals as goal

pub returns-then-not-area_in_order : goal.returns-then-not-area_in_order
returns-then-not-area_in_order c =
    laws.objects_no c.args.script.now.bytes.now c.args.block.now c.area_in_order.ensures (ap not c.if-not-area_in_order.true)

pub objects_fit-requires : goal.objects_fit-requires
objects_fit-requires c =
    laws.objects_asked c.args.script.now.bytes.now c.args.block.now (omega arith) (λ i. omega (arith, c.fits-block i)) (after_yes c.area_in_order.ensures (ap not c.if-not-area_in_order.false))

pub returns : goal.returns
returns c =
    laws.objects_are c.args.script.now.bytes.now c.args.block.now c.area_in_order.ensures _ (ap not c.if-not-area_in_order.false) c.objects_fit.ensures
