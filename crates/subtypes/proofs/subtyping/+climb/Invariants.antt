use Rattle.subtypes.proofs.subtyping.+climb.Given as goal

abbrev pub decreases-climb : goal.decreases-climb
decreases-climb l = l.t
