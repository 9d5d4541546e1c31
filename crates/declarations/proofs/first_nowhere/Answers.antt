use Rattle.std.proofs.Common.{arith, ap, not}
use Rattle.numbering.specs.declared.Sort.TheVariants.{Types}
use Rattle.numbering.proofs.Chains.{follows}
use Rattle.declarations.proofs.Asking.{asking_first, asking_next}
use Rattle.declarations.proofs.first_nowhere.Goals as goal

pub loop-i-init : goal.loop-i-init
loop-i-init g c =
    let k = c.args.linked.now in
    asking_first _ _ _ c.args.table.now _ _ (omega arith) (omega (arith, k.tokens.offset_each)) (rw c.of-i.ensures (k.chains_are.each Types).begins)

pub loop-i-smaller : goal.loop-i-smaller
loop-i-smaller g c =
    let test = c.loop-i-test in
    omega (arith, test.true, (follows (c.args.linked.now.chains_are.each Types) test.true (c.loop-i.invariant.1 test.true) c.next_in-i.ensures).reached)

pub loop-i-preserved : goal.loop-i-preserved
loop-i-preserved g c =
    let k = c.args.linked.now in
    let loop = c.loop-i in
    let test = c.loop-i-test in
    let asked = c.type_token in
    asking_next _ _ _ c.args.table.now _ _ (omega arith) (omega (arith, k.tokens.offset_each)) _ _ loop.invariant.0 test.true _ _ asked.ensures (ap not c.if-not-type_token.false) asked.auto.values
    (follows (k.chains_are.each Types) test.true (loop.invariant.1 test.true) c.next_in-i.ensures)

pub next_in-i-requires : goal.next_in-i-requires
next_in-i-requires g c =
    omega (arith, (c.args.linked.now.chains_are.each Types).room, c.loop-i-test.true)
