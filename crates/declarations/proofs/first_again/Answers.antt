use Rattle.std.proofs.Common.{arith}
use Rattle.numbering.specs.declared.Sort.TheVariants.{Declared}
use Rattle.numbering.proofs.Chains.{follows}
use Rattle.declarations.proofs.Asking.{counting_first, counting_next}
use Rattle.declarations.proofs.first_again.Goals as goal

pub loop-i-init : goal.loop-i-init
loop-i-init c =
    counting_first _ _ _ (omega arith) (rw c.of-i.ensures (c.args.linked.now.chains_are.each Declared).begins)

pub loop-i-smaller : goal.loop-i-smaller
loop-i-smaller c =
    let test = c.loop-i-test in
    omega (arith, test.true, (follows (c.args.linked.now.chains_are.each Declared) test.true (c.loop-i.invariant.1 test.true) c.next_in-i.ensures).reached)

pub loop-i-preserved : goal.loop-i-preserved
loop-i-preserved c =
    let loop = c.loop-i in
    let test = c.loop-i-test in
    let d = loop.invariant.1 test.true in
    counting_next _ _ _ (omega arith) _ _ loop.invariant.0 test.true d c.if-values-i.false (follows (c.args.linked.now.chains_are.each Declared) test.true d c.next_in-i.ensures)

pub next_in-i-requires : goal.next_in-i-requires
next_in-i-requires c =
    omega (arith, (c.args.linked.now.chains_are.each Declared).room, c.loop-i-test.true)
