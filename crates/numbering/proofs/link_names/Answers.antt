use Rattle.std.proofs.Common.{arith}
use Rattle.numbering.proofs.Chains.{none_linked, all_linked}
use Rattle.numbering.proofs.link_names.Goals as goal

pub loop-i-init : goal.loop-i-init
loop-i-init c =
    none_linked _ _ _ c.requires.0

pub returns : goal.returns
returns c =
    all_linked _ _ _ _ c.loop-i.heads (omega arith) c.loop-i.invariant
