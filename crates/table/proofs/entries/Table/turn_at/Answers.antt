use Rattle.table.proofs.entries.Table.turn_at.Goals as goal

pub returns : goal.returns
returns c =
    rw c.turn.ensures c.entry_at.ensures
