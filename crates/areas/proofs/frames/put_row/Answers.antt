use Rattle.block.specs.declared.Area.TheVariants.{Frames}
use Rattle.areas.proofs.Laws.{row_put}
use Rattle.areas.proofs.frames.put_row.Goals as goal

pub returns : goal.returns
returns c =
    rw (c.put.ensures, c.put_pair.ensures) (row_put _ Frames _ 0 _ _ _)
