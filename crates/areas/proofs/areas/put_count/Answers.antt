use Rattle.areas.proofs.areas.put_count.Goals as goal

pub returns : goal.returns
returns c =
    rw (← c.count_word_of-at.ensures.0) c.put_word.ensures
