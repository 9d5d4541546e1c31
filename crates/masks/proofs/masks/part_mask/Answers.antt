use Rattle.masks.proofs.masks.part_mask.Goals as goal

pub returns : goal.returns
returns c =
    rw c.record_word.ensures.0
