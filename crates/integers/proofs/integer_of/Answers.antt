use mathlib.Core.Path.{◌∙◌}
use Rattle.integers.proofs.Signed.{reads, read_is}
use Rattle.integers.proofs.integer_of.Goals as goal

pub returns : goal.returns
returns c =
    read_is (record { sfits = c.cast_signed.type_inv }) ∙ (c.cast_signed.ensures ∙ reads c.args.low c.args.high)
