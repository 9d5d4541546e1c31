use mathlib.Core.Path.{◌≡◌, refl}
use mathlib.Core.Bool.{◌&&◌}
use lib.Dec.{eqb}
use borrow.Author.Tests.{eq-eqb, ne_eqb}
use Rattle.inference.proofs.InferLaws as laws
use Rattle.inference.proofs.expressions.infer_add.Goals as goal
use Rattle.inference.proofs.expressions.infer_add.Goals.{then-t-int, else-t-int}

pub returns-in_err-t : goal.returns-in_err-t
returns-in_err-t c =
    rw (laws.exit _ c.from_residual.ensures.1) (laws.add_left _ _ _ _ _ _ _ c.infer_var.ensures _ c.in_err-t.was)

pub returns-in_err-u : goal.returns-in_err-u
returns-in_err-u c =
    rw (laws.exit _ c.from_residual-in_err-u.ensures.1) (laws.add_right _ _ _ _ _ _ _ c.infer_var.ensures _ c.in_ok-t.was _ c.infer_var-2.ensures _ c.in_err-u.was)

pub returns : goal.returns
returns c =
    let both : c.if-t-int.fits ≡ (eqb c.in_ok-t.t c.int_of-int.result && eqb c.in_ok-u.u c.int_of-int.result) =
    elim c.if-t-int.branch [
      | then-t-int w ↦ rw (w.fits-is, eq-eqb _ _ w.if-t-int.true) refl
      | else-t-int w ↦ rw (w.fits-is, ne_eqb _ _ w.if-t-int.false) refl
    ] in
    rw (c.fits.ensures, both) (laws.added _ _ _ _ _ _ _ c.infer_var.ensures _ c.in_ok-t.was _ c.infer_var-2.ensures _ _ c.in_ok-u.was c.int_of-int.ensures.0)
