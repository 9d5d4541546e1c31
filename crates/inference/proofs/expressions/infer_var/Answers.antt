use native.Mathlib.Omega.{arith}
use Rattle.names.specs.Ranks.{of_node}
use Rattle.names.proofs.KindLaws.{place_small}
use Rattle.members.proofs.CodeLaws.{facts_of}
use Rattle.inference.proofs.InferLaws as laws
use Rattle.inference.proofs.expressions.infer_var.Goals as goal

pub overflow_add-rank : goal.overflow_add-rank
overflow_add-rank c =
    omega (arith, place_small c.requires.named)

pub offset_bounds-code-n : goal.offset_bounds-code-n
offset_bounds-code-n c =
    omega (arith, place_small c.requires.named)

pub bounds-code-n : goal.bounds-code-n
bounds-code-n c =
    omega (arith, laws.fact_there (facts_of c.args.code.now.facts_are) c.args.code.now.script.within_layout c.requires.named.there, place_small c.requires.named)

pub offset_bounds-env-rank : goal.offset_bounds-env-rank
offset_bounds-env-rank c =
    omega (arith, laws.rank_small (facts_of c.args.code.now.facts_are) (of_node c.requires.named))

pub bounds-env-rank : goal.bounds-env-rank
bounds-env-rank c =
    rw c.requires.size (laws.rank_small (facts_of c.args.code.now.facts_are) (of_node c.requires.named))

pub returns-then-word-eq0 : goal.returns-then-word-eq0
returns-then-word-eq0 c Γ g =
    laws.unbound g _ _ _ (of_node c.requires.named) c.if-word-eq0.true

pub returns : goal.returns
returns c Γ g =
    laws.bound g _ _ _ (of_node c.requires.named) _ (omega arith)
