use Rattle.inference.proofs.InferLaws as laws
use Rattle.inference.proofs.expressions.lock_target.Goals as goal

pub returns-in_err-t : goal.returns-in_err-t
returns-in_err-t c =
    rw (laws.exit _ c.from_residual.ensures.1) (laws.lock_free _ _ _ _ _ _ c.infer_var.ensures _ c.in_err-t.was)

pub returns-then-t-int : goal.returns-then-t-int
returns-then-t-int c =
    laws.lock_int _ _ _ _ _ _ c.infer_var.ensures _ _ c.in_ok-t.was c.int_of-int.ensures.0 c.if-t-int.true

pub returns : goal.returns
returns c =
    laws.lock_typed _ _ _ _ _ _ c.infer_var.ensures _ _ c.in_ok-t.was c.int_of-int.ensures.0 c.if-t-int.false
