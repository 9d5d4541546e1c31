use native.Mathlib.Omega.{arith}
use Rattle.environments.proofs.ChainLaws as chain
use Rattle.environments.proofs.ScopeLaws as laws
use Rattle.environments.proofs.scopes.variable_type.Goals as goal

pub returns-in_err-i : goal.returns-in_err-i
returns-in_err-i c =
    rw c.from_residual.ensures (laws.no_type c.nearest.ensures c.in_err-i.was)

pub word-requires : goal.word-requires
word-requires c =
    (omega (arith, (chain.nearest_at c.nearest.ensures c.in_ok-i.was).0, c.requires.few), omega arith)

pub returns : goal.returns
returns c =
    laws.type_at c.nearest.ensures c.in_ok-i.was _ c.word.ensures.0
