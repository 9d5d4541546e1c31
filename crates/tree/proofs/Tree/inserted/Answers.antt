use mathlib.Core.Path.{refl}
use Rattle.tree.proofs.Lists.{up_within}
use Rattle.tree.proofs.Changes.{puts_in}
use Rattle.tree.proofs.Tree.inserted.Goals as goal

pub returns : goal.returns
returns c =
    let a = c.args in
    let pre = c.requires in
    puts_in a.self _ a.at pre.0 a.x a.y pre.1 pre.2 refl (rw (c.copy_within.ensures.after, up_within a.self.entries a.at a.self.len pre.1))
