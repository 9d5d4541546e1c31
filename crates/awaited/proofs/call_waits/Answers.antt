use Rattle.awaited.proofs.AwaitedLaws as laws
use Rattle.awaited.proofs.call_waits.Goals as goal

pub returns-in_err-c : goal.returns-in_err-c
returns-in_err-c c =
    rw c.from_residual.ensures (laws.call_unbound c.args.script.now.within_layout c.requires.0 _ c.node_word.ensures.0 _ c.variable_type.ensures c.requires.1 c.in_err-c.was)

pub returns-in_err-types : goal.returns-in_err-types
returns-in_err-types c =
    rw c.from_residual-in_err-types.ensures (laws.call_missing c.args.script.now.within_layout c.requires.0 _ c.node_word.ensures.0 _ c.variable_type.ensures c.requires.1 _ c.in_ok-c.was _ c.node_word-2.ensures.0 _ c.method_of.ensures c.in_err-types.was)

pub returns : goal.returns
returns c =
    laws.call_waits c.args.script.now.within_layout c.requires.0 _ c.node_word.ensures.0 _ c.variable_type.ensures c.requires.1 _ c.in_ok-c.was _ c.node_word-2.ensures.0 _ c.method_of.ensures _ c.in_ok-types.was
