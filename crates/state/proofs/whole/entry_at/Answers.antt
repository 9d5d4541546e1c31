use Rattle.state.proofs.Taking.{storable_cell}
use Rattle.state.proofs.whole.entry_at.Goals as goal

pub returns : goal.returns
returns c = (
  rw (c.cell_of.ensures, c.word-kind.ensures.0, c.word-node.ensures.0, c.word-env.ensures.0, c.value-result.ensures.0, c.word-frames.ensures.0),
  storable_cell c.cell_of.result c.word-kind.result c.word-node.result c.word-env.result c.value-result.result c.cell_of.ensures c.value-result.ensures.1,
)
