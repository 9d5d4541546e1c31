use native.Mathlib.Omega.{arith}
use Rattle.environments.proofs.ChainLaws as laws
use Rattle.environments.proofs.scopes.variable.Goals as goal

pub returns-in_err-i : goal.returns-in_err-i
returns-in_err-i c =
    rw c.from_residual.ensures (laws.no_value c.nearest.ensures c.in_err-i.was)

pub value-requires : goal.value-requires
value-requires c =
    (omega (arith, (laws.nearest_at c.nearest.ensures c.in_ok-i.was).0, c.requires.few), omega arith)

pub returns : goal.returns
returns c =
    laws.value_at c.nearest.ensures c.in_ok-i.was _ c.value.ensures.0
