use Rattle.script.specs.Reading.{signature_at}
use Rattle.interfaces.proofs.agreement.same_types.Goals as goal

pub returns : goal.returns
unfolding signature_at
returns c =
    rw (c.types_at.ensures, c.types_at-2.ensures) at c.eq.ensures
