use native.Mathlib.Omega.{arith}
use Rattle.script.specs.declared.Section.TheVariants.{Methods as methods}
use Rattle.inference.proofs.InferLaws.{exit}
use Rattle.inference.proofs.WalkLaws as laws
use Rattle.inference.proofs.program.walk_class.Goals as goal

pub overflow_add-end : goal.overflow_add-end
overflow_add-end c =
    let w = c.args.code.now.script.within_layout in
    omega (arith, laws.methods_within w _ _ c.requires.1 c.first_of-first.ensures _ c.own_count.ensures.0, w.counts_are.within methods)

pub loop-m-init : goal.loop-m-init
loop-m-init c =
    laws.methods_first _ _ _ _ _ _ c.count_of.ensures.0 c.first_of-first.ensures c.own_count.ensures.0

pub walk_method-requires : goal.walk_method-requires
walk_method-requires c =
    let w = c.args.code.now.script.within_layout in
    (laws.blank_still c.requires.0 c.loop-m.invariant.same, laws.class_type_lem _ _ _ c.count_of.ensures.0 c.requires.1, omega (arith, laws.methods_within w _ _ c.requires.1 c.first_of-first.ensures _ c.own_count.ensures.0))

pub returns-in_err-walk_method-clause-walks_as : goal.returns-in_err-walk_method-clause-walks_as
returns-in_err-walk_method-clause-walks_as c =
    rw (exit _ c.from_residual.ensures.1) (laws.method_faulty c.loop-m.invariant _ c.loop-m-test.true c.walk_method.ensures.value _ c.in_err-walk_method.was)

pub loop-m-preserved : goal.loop-m-preserved
loop-m-preserved c =
    laws.methods_more c.loop-m.invariant _ c.loop-m-test.true c.walk_method.ensures.value _ c.in_ok-walk_method.was c.walk_method.ensures.env_unchanged

pub returns-clause-walks_as : goal.returns-clause-walks_as
returns-clause-walks_as c =
    laws.methods_all c.loop-m.invariant (omega arith)
