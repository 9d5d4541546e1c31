use Rattle.slices.proofs.Bits.{flag_bit}
use Rattle.subtypes.proofs.rows.has_bit.Goals as goal

pub returns : goal.returns
returns c =
    flag_bit _ _
