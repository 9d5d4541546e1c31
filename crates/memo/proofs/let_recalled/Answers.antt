use mathlib.Core.Path.{◌∙◌}
use Rattle.memo.proofs.MemoLaws as laws
use Rattle.awaited.proofs.ReadyLaws as ready
use Rattle.memo.proofs.let_recalled.Goals as goal

pub recall-requires : goal.recall-requires
recall-requires c =
    let w = c.args.code.now.script.within_layout in
    let m = c.requires.memo_ready.1 in
    (ready.chain w m.ready _ c.requires.node_under.0.environment, m.remembers.placed, ready.small_node w m.ready c.requires.node_under.0.node)

pub returns-in-Some-clause-waits_as : goal.returns-in-Some-clause-waits_as
returns-in-Some-clause-waits_as c =
    laws.recalled c.requires.memo_ready.1.remembers (c.recall.ensures _ c.in-Some.is)

pub remember-requires : goal.remember-requires
remember-requires c =
    let w = c.args.code.now.script.within_layout in
    let m = c.requires.memo_ready.1 in
    (m.remembers.placed.size, ready.small_node w m.ready c.requires.node_under.0.node, ready.small_environment w m.ready c.requires.node_under.0.environment)

pub remember-requires-in-ForNull : goal.remember-requires-in-ForNull
remember-requires-in-ForNull c =
    let w = c.args.code.now.script.within_layout in
    let m = c.requires.memo_ready.1 in
    (m.remembers.placed.size, ready.small_node w m.ready c.requires.node_under.0.node, ready.small_environment w m.ready c.requires.node_under.0.environment)

pub returns-in-For-clause-remembers : goal.returns-in-For-clause-remembers
returns-in-For-clause-remembers c =
    let w = c.args.code.now.script.within_layout in
    let m = c.requires.memo_ready.1 in
    let under = c.requires.node_under.0 in
    laws.remembered _ m.remembers.placed.size _ (ready.small_node w m.ready under.node) _ _ _ m.remembers under.environment
    (laws.as_words _ _ _ _ _ _ _ c.let_waits.ensures.waits_as.0 c.in_ok-w.was (c.in-For.is ∙ laws.in_words _ _)) c.remember.ensures

pub returns-in-ForNull-clause-remembers : goal.returns-in-ForNull-clause-remembers
returns-in-ForNull-clause-remembers c =
    let w = c.args.code.now.script.within_layout in
    let m = c.requires.memo_ready.1 in
    let under = c.requires.node_under.0 in
    laws.remembered _ m.remembers.placed.size _ (ready.small_node w m.ready under.node) _ _ _ m.remembers under.environment
    (laws.as_words _ _ _ _ _ _ _ c.let_waits.ensures.waits_as.0 c.in_ok-w.was c.in-ForNull.is) c.remember-in-ForNull.ensures
