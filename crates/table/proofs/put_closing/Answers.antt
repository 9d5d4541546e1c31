use Rattle.table.specs.Table.{closed_to}
use Rattle.table.proofs.TableLaws.{closed_more}
use native.Mathlib.Omega.{arith}
use mathlib.Core.Path.{◌≡◌, refl, ◌∙◌, ap}
use Rattle.table.proofs.put_closing.Goals as goal

pub loop-k-init : goal.loop-k-init
unfolding closed_to
loop-k-init c =
    refl

pub loop-k-preserved : goal.loop-k-preserved
loop-k-preserved c =
    closed_more _ _ _ c.loop-k.invariant

pub returns : goal.returns
returns c =
    let e : c.loop-k.k ≡ 32 = omega arith in c.loop-k.invariant ∙ ap (λ k. closed_to k c.args.table.now) e
