use Rattle.areas.proofs.areas.put.Goals as goal

pub returns : goal.returns
returns c =
    rw (← c.word_byte-at.ensures.0) c.put_word.ensures
