use Rattle.awaited.proofs.AwaitedLaws as laws
use Rattle.awaited.proofs.write_waits.Goals as goal

pub returns-in_err-c : goal.returns-in_err-c
returns-in_err-c c =
    rw c.from_residual.ensures (laws.write_unbound c.args.script.now.within_layout c.requires.0 _ c.node_word.ensures.0 _ c.variable_type.ensures c.requires.1 c.in_err-c.was)

pub returns-in_err-t : goal.returns-in_err-t
returns-in_err-t c =
    rw c.from_residual-in_err-t.ensures (laws.write_missing c.args.script.now.within_layout c.requires.0 _ c.node_word.ensures.0 _ c.variable_type.ensures c.requires.1 _ c.in_ok-c.was _ c.node_word-2.ensures.0 _ c.field_type.ensures c.in_err-t.was)

pub returns : goal.returns
returns c =
    laws.write_waits c.args.script.now.within_layout c.requires.0 _ c.node_word.ensures.0 _ c.variable_type.ensures c.requires.1 _ c.in_ok-c.was _ c.node_word-2.ensures.0 _ c.field_type.ensures _ c.in_ok-t.was
