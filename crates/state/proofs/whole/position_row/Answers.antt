use Rattle.state.proofs.Putting.{row_listed}
use Rattle.state.proofs.whole.position_row.Goals as goal

pub returns : goal.returns
returns c =
    row_listed _ _ _ c.args.v _ _ c.value_words-w.ensures
