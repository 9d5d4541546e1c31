use mathlib.Core.Path.{refl, sym}
use Rattle.typing.proofs.Exact.{outside_refused}
use Rattle.silent_call.proofs.SilentReplies.{silent_refused, silent_accepted}
use Rattle.silent_call.proofs.silent.Goals as goal

pub silent_from-requires : goal.silent_from-requires
silent_from-requires c =
    outside_refused _ _ (sym c.in-Ok.ensures)

pub returns-in-Ok : goal.returns-in-Ok
returns-in-Ok c =
    let told = silent_accepted _ _ _ c.accepted.ensures c.in-Ok.ensures c.silent_from.ensures in record { script = refl; number = told.0; place = told.1.0; count = told.1.1 }

pub returns-in-Err : goal.returns-in-Err
returns-in-Err c =
    let told = silent_refused _ c.args.node _ c.from.ensures c.in-Err.ensures in record { script = refl; number = told.0; place = told.1.0; count = told.1.1 }
