use Rattle.environments.proofs.KnownLaws as laws
use Rattle.environments.proofs.known.call_type.Goals as goal

pub returns-in_err-c : goal.returns-in_err-c
returns-in_err-c c =
    rw c.from_residual.ensures (laws.told_nothing _ _ _ _)

pub returns-in_err-types : goal.returns-in_err-types
returns-in_err-types c =
    rw c.from_residual-in_err-types.ensures (laws.told_nothing _ _ _ _)

pub returns : goal.returns
returns c =
    laws.told_call c.args.script.now.within_layout c.requires.0 _ c.node_word.ensures.0 _ c.variable_type.ensures _ c.in_ok-c.was _ c.node_word-2.ensures.0 c.requires.1 c.requires.2 _ c.method_of.ensures _ c.in_ok-types.was
