use Rattle.tree.proofs.Changes.{failing}
use Rattle.tree.proofs.Tree.failed.Goals as goal

pub returns : goal.returns
returns c =
    failing _ _ _ c.replaced.ensures
