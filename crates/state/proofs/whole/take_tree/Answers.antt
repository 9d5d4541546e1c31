use native.Mathlib.Omega.{arith}
use mathlib.Core.Path.{◌≡◌, refl}
use Rattle.state.proofs.Taking.{fill_more, taken}
use Rattle.state.proofs.whole.take_tree.Goals as goal

pub loop-i-init : goal.loop-i-init
loop-i-init c =
    record { few = omega (arith, c.count-n.ensures.0); many = c.count-n.ensures.0; inside = omega arith; filled = refl; worded = _ }

pub loop-i-preserved : goal.loop-i-preserved
loop-i-preserved c =
    fill_more _ _ _ _ _ _ (omega arith) c.loop-i.invariant c.entry_at.ensures.0 c.entry_at.ensures.1 refl

pub returns : goal.returns
returns c =
    let e : c.loop-i.i ≡ c.count-n.result = omega (arith, c.loop-i.invariant.inside) in
    taken _ _ _ refl (rw e at c.loop-i.invariant)
