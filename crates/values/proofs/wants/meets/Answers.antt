use Rattle.values.proofs.wants.meets.Goals as goal

pub returns-in-Upto : goal.returns-in-Upto
returns-in-Upto c =
    rw c.in-Upto.is c.is_below.ensures
