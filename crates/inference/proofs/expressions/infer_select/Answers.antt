use Rattle.inference.proofs.InferLaws as laws
use Rattle.inference.proofs.expressions.infer_select.Goals as goal

pub returns-in_err-t : goal.returns-in_err-t
returns-in_err-t c =
    rw (laws.exit _ c.from_residual.ensures.1) (laws.select_unbound _ _ _ _ _ _ _ c.infer_var.ensures _ c.in_err-t.was)

pub returns : goal.returns
returns c =
    rw c.ok_or.ensures.value (laws.select_found _ _ _ _ _ _ _ c.infer_var.ensures _ _ _ c.in_ok-t.was c.node_word-f.ensures.0 c.field_type.ensures)
