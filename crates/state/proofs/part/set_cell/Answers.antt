use Rattle.state.proofs.Seeing.{seen_length, seen_room}
use Rattle.state.proofs.Moves.{settled}
use Rattle.state.proofs.part.set_cell.Goals as goal

pub put_entry-requires : goal.put_entry-requires
put_entry-requires c =
    (seen_room c.requires.0.seen, c.requires.1)

pub returns : goal.returns
returns c =
    λ x st u w one too e f s. settled c.args.cell _ c.frames_at-frames.ensures c.put_entry.ensures c.requires.1 one too e f s
