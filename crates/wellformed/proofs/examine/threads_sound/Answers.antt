use native.Mathlib.Omega.{arith}
use mathlib.Core.Path.{refl}
use Rattle.wellformed.proofs.FormLaws as laws
use mathlib.Core.Path.{ap}
use mathlib.Core.Bool.{not}
use Rattle.wellformed.proofs.examine.threads_sound.Goals as goal

pub returns-then-not-threads_in_order : goal.returns-then-not-threads_in_order
returns-then-not-threads_in_order c =
    record { block_value_2 = laws.bad_order c.args.code.now.script.bytes.now c.args.t c.args.block.now c.threads_in_order.ensures (ap not c.if-not-threads_in_order.true); table_unchanged = refl }

pub tree_fits-requires : goal.tree_fits-requires
tree_fits-requires c =
    (c.requires.blank, laws.ready c.args.code.now.script.bytes.now c.args.t c.args.block.now c.threads_in_order.ensures (omega arith) (λ i. omega (arith, c.fits-block i)) c.requires.block_value.0 c.requires.block_value.1 (ap not c.if-not-threads_in_order.false))

pub returns-then-not-tree_fits : goal.returns-then-not-tree_fits
returns-then-not-tree_fits c =
    record { block_value_2 = laws.bad_tree c.args.code.now.script.bytes.now c.args.t c.args.block.now c.threads_in_order.ensures (omega arith) (λ i. omega (arith, c.fits-block i)) c.requires.block_value.0 c.requires.block_value.1 (ap not c.if-not-threads_in_order.false) c.tree_fits.ensures.value (ap not c.if-not-tree_fits.true); table_unchanged = c.tree_fits.ensures.table_unchanged }

pub locks_fit-requires : goal.locks_fit-requires
locks_fit-requires c =
    laws.sized c.args.code.now.script.bytes.now c.args.t c.args.block.now c.threads_in_order.ensures (omega arith) (λ i. omega (arith, c.fits-block i)) c.requires.block_value.0 c.requires.block_value.1 (ap not c.if-not-threads_in_order.false)

pub returns : goal.returns
returns c =
    record { block_value_2 = laws.form_asked c.args.code.now.script.bytes.now c.args.t c.args.block.now c.threads_in_order.ensures (omega arith) (λ i. omega (arith, c.fits-block i)) c.requires.block_value.0 c.requires.block_value.1 (ap not c.if-not-threads_in_order.false) c.tree_fits.ensures.value (ap not c.if-not-tree_fits.false) c.locks_fit.ensures; table_unchanged = c.tree_fits.ensures.table_unchanged }
