use Rattle.state.proofs.Putting.{position_put}
use Rattle.state.proofs.whole.put_entry.Goals as goal

pub put_row-requires : goal.put_row-requires
put_row-requires c =
    (c.requires.0, c.row_of-row.ensures.0)

pub returns : goal.returns
returns c =
    λ p t is h e. position_put _ _ _ _ p t c.requires.0 h (c.row_of-row.ensures.1 t e) is c.put_row.ensures
