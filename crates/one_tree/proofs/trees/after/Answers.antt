use native.Mathlib.Omega.{arith}
use Rattle.one_tree.specs.After.{of_join, of_thread}
use Rattle.one_tree.proofs.trees.after.Goals as goal

pub returns-then-kind-eq-JOIN : goal.returns-then-kind-eq-JOIN
returns-then-kind-eq-JOIN c =
    (of_join c.if-kind-eq-JOIN.true, omega arith)

pub returns : goal.returns
returns c =
    (of_thread c.if-kind-eq-JOIN.false, omega arith)
