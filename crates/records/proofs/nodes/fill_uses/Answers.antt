use Rattle.records.proofs.UseLaws.{table_full}
use Rattle.records.proofs.nodes.fill_uses.Goals as goal

pub returns : goal.returns
returns c =
    table_full _ _ _ _ c.requires c.count_bodies.ensures c.count_nodes.ensures
