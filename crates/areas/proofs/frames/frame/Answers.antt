use mathlib.Core.Path.{◌∙◌}
use Rattle.areas.proofs.Laws.{frame_read}
use Rattle.areas.proofs.frames.frame.Goals as goal

pub returns : goal.returns
returns c p is l =
    let word = c.word-kind in
    let word2 = c.word-x in
    c.frame_of.ensures
    ∙ frame_read _ p is _ _ _ _ c.requires l word.ensures.0 word2.ensures.0 c.word-y.ensures.0
