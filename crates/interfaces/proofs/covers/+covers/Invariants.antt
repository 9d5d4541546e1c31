use Rattle.interfaces.proofs.covers.+covers.Given as goal

abbrev pub decreases-covers : goal.decreases-covers
decreases-covers l = l.t
