use native.Mathlib.Omega.{arith}
use Rattle.script.proofs.Lists.{sum_start, sum_next}
use Rattle.sections.specs.Laid.{own_of}
use Rattle.sections.proofs.CodeLaws.{owner_is, owned_is}
use Rattle.sections.proofs.layout.owned_fit.Goals as goal

pub loop-o-init : goal.loop-o-init
loop-o-init c =
    (omega arith, sum_start _, omega arith)

pub own_count-sum-requires : goal.own_count-sum-requires
own_count-sum-requires c =
    owner_is _ c.args.k _ _ _ c.owner_of.ensures c.count_of-n.ensures.0 c.loop-o-test.true

pub overflow_add-sum : goal.overflow_add-sum
overflow_add-sum c =
    omega (arith, c.own_count-sum.ensures.1, c.loop-o.invariant.2, c.count_of-n.ensures.1, c.loop-o-test.true)

pub loop-o-preserved : goal.loop-o-preserved
loop-o-preserved c =
    (omega (arith, c.loop-o-test.true), sum_next (own_of c.args.file.now.bytes.now c.args.k) c.loop-o.o _ _ c.loop-o.invariant.1 c.own_count-sum.ensures.0, omega (arith, c.own_count-sum.ensures.1, c.loop-o.invariant.2))

pub returns : goal.returns
returns c =
    owned_is _ _ _ _ _ _ _ c.owner_of.ensures c.count_of-n.ensures.0 c.loop-o.invariant.1 c.loop-o.invariant.0 c.loop-o-test.false c.count_of.ensures.0
