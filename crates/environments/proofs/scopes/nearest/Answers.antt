use native.Mathlib.Omega.{arith}
use Rattle.environments.proofs.ChainLaws as laws
use Rattle.environments.proofs.scopes.nearest.Goals as goal

pub loop-e-init : goal.loop-e-init
loop-e-init c =
    laws.begun c.requires

pub word-requires : goal.word-requires
word-requires c =
    (laws.reached c.requires c.loop-e.invariant (omega arith), omega arith)

pub returns-then-word-x : goal.returns-then-word-x
returns-then-word-x c =
    laws.found c.requires c.loop-e.invariant (omega arith) _ c.word.ensures.0 c.if-word-x.true

pub word-e-requires : goal.word-e-requires
word-e-requires c =
    (laws.reached c.requires c.loop-e.invariant (omega arith), omega arith)

pub loop-e-smaller : goal.loop-e-smaller
loop-e-smaller c =
    laws.nearer c.requires c.loop-e.invariant (omega arith) _ c.word-e.ensures.0

pub loop-e-preserved : goal.loop-e-preserved
loop-e-preserved c =
    laws.onward c.requires c.loop-e.invariant (omega arith) _ _ c.word.ensures.0 c.if-word-x.false c.word-e.ensures.0

pub returns : goal.returns
returns c =
    laws.not_found c.requires c.loop-e.invariant (omega arith)
