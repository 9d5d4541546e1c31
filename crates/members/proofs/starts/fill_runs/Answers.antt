use mathlib.Core.Path.{refl}
use native.Mathlib.Omega.{arith}
use lib.ListN.{length-set}
use Rattle.script.proofs.Lists.{sum_start, sum_next}
use Rattle.members.proofs.LookupLaws.{sum_small, owners_are, no_runs, run_more, runs_done}
use Rattle.members.proofs.starts.fill_runs.Goals as goal

pub loop-o-init : goal.loop-o-init
loop-o-init c =
    (owners_are _ c.args.k _ _ c.owner_of.ensures c.count_of-owners.ensures.0, omega arith, refl, sum_start _, no_runs _ _ _ _)

pub overflow_cast-starts : goal.overflow_cast-starts
overflow_cast-starts c =
    let z = c.loop-o.invariant in omega (arith, sum_small c.requires.0 c.args.k _ _ _ _ z.0 c.loop-o-test.true z.3 refl)

pub overflow_add-sum : goal.overflow_add-sum
overflow_add-sum c =
    let z = c.loop-o.invariant in omega (arith, sum_small c.requires.0 c.args.k _ _ _ _ z.0 c.loop-o-test.true z.3 c.own_count-sum.ensures.0)

pub loop-o-preserved : goal.loop-o-preserved
loop-o-preserved c =
    let z = c.loop-o.invariant in (z.0, omega arith, simp length-set z.2, sum_next _ _ _ _ z.3 c.own_count-sum.ensures.0, run_more _ _ _ _ _ _ _ (omega arith) z.3 z.4)

pub returns : goal.returns
returns c =
    let z = c.loop-o.invariant in runs_done _ _ _ _ _ _ _ z.0 z.1 c.loop-o-test.false z.4
