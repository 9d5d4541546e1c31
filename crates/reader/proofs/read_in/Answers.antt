use Rattle.std.proofs.Common.{arith, refl}
use Rattle.reader.proofs.JudgedLaws.{misfits, misfit_within, misfit_refused, fits, left, offset_each, few, inside}
use Rattle.reader.proofs.read_in.Goals as goal

pub overflow_cast-result : goal.overflow_cast-result
overflow_cast-result g c =
    omega (arith, misfit_within (misfits c.args.bytes.now _ c.in-Err.ensures), c.requires.0, c.requires.1)

pub returns-in-Err : goal.returns-in-Err
returns-in-Err g c =
    misfit_refused (misfits c.args.bytes.now _ c.in-Err.ensures) _ _ (omega (arith, c.requires.0, c.requires.1)) c.requires.2 refl

pub invariant_of-tokens : goal.invariant_of-tokens
invariant_of-tokens g c =
    let f = fits c.args.bytes.now _ _ _ _ c.in-Ok.accepted c.in-Ok.ensures in record { offset_each = offset_each f; few = omega (arith, few f, c.requires.0, c.requires.1); inside = inside f }

pub number-requires : goal.number-requires
number-requires g c =
    let pre = c.requires in
    record { derived_text = left (fits c.args.bytes.now _ _ _ _ c.in-Ok.accepted c.in-Ok.ensures); short = omega (arith, pre.0, pre.1); whole = pre.2 }
