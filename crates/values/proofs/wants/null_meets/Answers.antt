use Rattle.values.proofs.wants.null_meets.Goals as goal

pub returns-in-Upto : goal.returns-in-Upto
returns-in-Upto c =
    rw (c.in-Upto.is, c.int_of.ensures.0)
