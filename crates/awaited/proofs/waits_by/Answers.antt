use mathlib.Core.Path.{sym, ap}
use Rattle.awaited.specs.Awaited.{waits_by}
use Rattle.awaited.proofs.waits_by.Goals as goal

pub returns-in-Typed : goal.returns-in-Typed
returns-in-Typed c =
    sym (ap (waits_by _) c.in-Typed.is)

pub returns-in-Null : goal.returns-in-Null
returns-in-Null c =
    sym (ap (waits_by _) c.in-Null.is)
