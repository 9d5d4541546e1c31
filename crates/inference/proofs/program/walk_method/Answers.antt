use native.Mathlib.Omega.{arith}
use Rattle.members.proofs.CodeLaws.{facts_of}
use Rattle.inference.proofs.InferLaws.{type_small}
use Rattle.inference.proofs.WalkLaws as laws
use Rattle.inference.proofs.program.walk_method.Goals as goal

pub overflow_add-env : goal.overflow_add-env
overflow_add-env c =
    omega (arith, type_small c.args.code.now.script.within_layout _ c.requires.1)

pub overflow_add-env-2 : goal.overflow_add-env-2
overflow_add-env-2 c =
    let code = c.args.code.now in let p = c.requires in
    omega (arith, laws.param_small code.script.within_layout (facts_of code.facts_are) p.0 _ _ p.1 p.2 _ c.record_word-param.ensures.0)

pub check-r-requires : goal.check-r-requires
check-r-requires c =
    let code = c.args.code.now in let p = c.requires in
    laws.body_at_lem code.script.within_layout (facts_of code.facts_are) p.0 _ _ p.1 p.2 _ _ c.record_word-param.ensures.0 c.record_word-body.ensures.0

pub returns-clause-value : goal.returns-clause-value
returns-clause-value c =
    let code = c.args.code.now in let p = c.requires in
    laws.body_checked code.script.within_layout (facts_of code.facts_are) p.0 _ _ p.1 p.2 _ _ _ _ c.record_word-param.ensures.0 c.record_word-result.ensures.0 c.record_word-body.ensures.0 c.check-r.ensures.checked

pub returns-clause-env_unchanged : goal.returns-clause-env_unchanged
returns-clause-env_unchanged c =
    let code = c.args.code.now in laws.unbound_again code.script.within_layout (facts_of code.facts_are) c.requires.0 _ _ c.check-r.ensures.env_unchanged
