use native.Mathlib.Omega.{arith}
use Rattle.members.proofs.CodeLaws.{facts_of}
use Rattle.inference.proofs.InferLaws.{exit}
use Rattle.inference.proofs.WalkLaws as laws
use Rattle.inference.proofs.program.walk_script.Goals as goal

pub loop-c-init : goal.loop-c-init
loop-c-init c =
    laws.classes_first _ _

pub walk_class-requires : goal.walk_class-requires
walk_class-requires c =
    (laws.blank_still c.requires c.loop-c.invariant.same, omega (arith, c.count_of-count.ensures.0))

pub returns-in_err-walk_class : goal.returns-in_err-walk_class
returns-in_err-walk_class c =
    rw (exit _ c.from_residual.ensures.1) (laws.class_faulty c.loop-c.invariant _ (omega (arith, c.count_of-count.ensures.0)) c.walk_class.ensures.walks_as _ c.in_err-walk_class.was)

pub loop-c-preserved : goal.loop-c-preserved
loop-c-preserved c =
    laws.classes_more c.loop-c.invariant _ (omega (arith, c.count_of-count.ensures.0)) c.walk_class.ensures.walks_as _ c.in_ok-walk_class.was c.walk_class.ensures.env_unchanged

pub infer_type-requires : goal.infer_type-requires
infer_type-requires c =
    let code = c.args.code.now in laws.start_at code.script.within_layout (facts_of code.facts_are) c.requires c.loop-c.invariant.same

pub returns : goal.returns
returns c =
    let code = c.args.code.now in
    laws.classes_all c.loop-c.invariant _ code.script.within_layout (facts_of code.facts_are) c.requires (omega (arith, c.count_of-count.ensures.0)) c.infer_type.ensures.inferred
