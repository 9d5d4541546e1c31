use native.Mathlib.Omega.{arith}
use Prim.Native.Nat.{◌≤◌}
use Rattle.script.specs.declared.Section.TheVariants.{Signatures as signatures}
use Rattle.script.specs.Section.{count_of}
use Rattle.interfaces.proofs.AgreementLaws.{nothing_clashes, no_names, name_next, joins_no, joins_yes}
use Rattle.interfaces.proofs.agreement.check_joins.Goals as goal

pub returns-then-no_clash : goal.returns-then-no_clash
returns-then-no_clash c =
    nothing_clashes _ (c.no_clash.ensures c.if-no_clash.true)

pub loop-k-init : goal.loop-k-init
loop-k-init c =
    no_names _ _

pub loop-k-preserved : goal.loop-k-preserved
loop-k-preserved c =
    let next = rw c.record_word-m.ensures.0 at c.lowest_for.ensures in
    let upto = rw c.count_of-n.ensures.0 at c.unwrap_or-upto.ensures in
    rw c.or-fault.ensures (name_next _ _ _ _ _ _ c.loop-k.invariant upto next)

pub returns-in-Some : goal.returns-in-Some
returns-in-Some c =
    let past : count_of c.args.script.now.bytes.now signatures ≤ c.loop-k.k = omega (arith, c.count_of-k-end.ensures.0, c.loop-k-test.false) in
    let upto : c.loop-k.k ≤ count_of c.args.script.now.bytes.now signatures = omega (arith, c.count_of-k-end.ensures.0, c.loop-k.auto.k-end) in
    joins_no c.args.script.now.within_layout _ past upto _ _ (rw c.in-Some.is at c.loop-k.invariant) c.record_at.ensures.0

pub returns-in-None : goal.returns-in-None
returns-in-None c =
    let past : count_of c.args.script.now.bytes.now signatures ≤ c.loop-k.k = omega (arith, c.count_of-k-end.ensures.0, c.loop-k-test.false) in
    let upto : c.loop-k.k ≤ count_of c.args.script.now.bytes.now signatures = omega (arith, c.count_of-k-end.ensures.0, c.loop-k.auto.k-end) in
    joins_yes c.args.script.now.within_layout _ past upto (rw c.in-None.is at c.loop-k.invariant)
