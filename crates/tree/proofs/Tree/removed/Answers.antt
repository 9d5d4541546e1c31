use mathlib.Core.Path.{refl, ◌∙◌}
use native.Mathlib.Omega.{arith}
use Rattle.tree.proofs.Lists.{down_within}
use Rattle.tree.proofs.Changes.{takes_out}
use Rattle.tree.proofs.Tree.removed.Goals as goal

pub returns : goal.returns
returns c =
    let a = c.args in
    let pre = c.requires in
    takes_out a.self _ a.at pre.0 a.old pre.1 refl (c.copy_within.ensures.after ∙ down_within a.self.entries a.at a.old a.self.len pre.1 (omega (arith, pre.0.small, pre.0.whole)))
