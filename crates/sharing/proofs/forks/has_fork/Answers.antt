use Rattle.script.specs.declared.Kind.TheVariants.{Fork}
use Rattle.script.proofs.Reading.{other_number}
use native.Mathlib.Omega.{arith}
use borrow.Author.Count.{below_more}
use Rattle.script.proofs.Tests.{true_false}
use Rattle.sharing.proofs.forks.has_fork.Goals as goal

pub loop-n-init : goal.loop-n-init
loop-n-init c =
    (omega arith, λ k h e. omega arith)

pub returns-in-Fork : goal.returns-in-Fork
returns-in-Fork c =
    λ e. absurd (true_false e)

pub loop-n-preserved : goal.loop-n-preserved
loop-n-preserved c =
    (omega arith, below_more _ _ c.loop-n.invariant.1 (other_number Fork c.record_word.ensures.0 c.kind_of.ensures c.in_default.not-Fork))

pub returns : goal.returns
returns c =
    λ e n h z. c.loop-n.invariant.1 n (omega (arith, h)) z
