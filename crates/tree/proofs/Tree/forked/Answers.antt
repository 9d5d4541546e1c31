use mathlib.Core.Path.{refl}
use Rattle.tree.proofs.Changes.{stored_first, forks}
use Rattle.tree.proofs.Tree.forked.Goals as goal

pub returns : goal.returns
returns c =
    let a = c.args in
    let pre = c.requires in
    forks _ _ _ _ a.a a.b a.c a.env pre.0 refl (stored_first a.self _ _ a.i 0 _ _ pre.0 pre.1 refl refl c.inserted.ensures)
