use Rattle.numbering.proofs.Chains.{link_none, link_one}
use Rattle.numbering.proofs.link.Goals as goal

pub returns-in-Some : goal.returns-in-Some
returns-in-Some c =
    rw c.number.ensures (link_one _ _ _ _ _ c.requires.heads_from c.in-Some.sort c.in-Some.ensures _ c.requires.i_in_bounds.0 (rw c.of.ensures at c.link_to.ensures))

pub returns-in_default : goal.returns-in_default
returns-in_default c =
    link_none _ _ _ _ _ c.requires.heads_from c.in_default.ensures
