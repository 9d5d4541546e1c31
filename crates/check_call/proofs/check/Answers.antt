use mathlib.Core.Path.{refl, sym}
use Rattle.typing.proofs.Exact.{outside_refused}
use Rattle.check_call.proofs.check.Goals as goal

pub most_silent-silent-requires : goal.most_silent-silent-requires
most_silent-silent-requires c =
    outside_refused _ _ (sym c.in-Ok.ensures)

pub returns-in-Ok : goal.returns-in-Ok
returns-in-Ok c =
    rw (c.accepted.ensures, ← c.in-Ok.ensures) (record { script = refl; number = refl; place = refl; start_type = refl; silent = c.most_silent-silent.ensures })

pub returns-in-Err : goal.returns-in-Err
returns-in-Err c =
    rw (c.from.ensures, ← c.in-Err.ensures) (record { script = refl; number = refl; place = refl; start_type = refl; silent = refl })
