use mathlib.Core.Path.{refl, sym, ◌∙◌}
use Rattle.awaited.proofs.AwaitedLaws as laws
use Rattle.awaited.proofs.ReadyLaws as ready
use Rattle.frames.proofs.frames.node_waits.Goals as goal

pub write_waits-requires : goal.write_waits-requires
write_waits-requires c =
    (ready.scoped_at c.args.code.now.script.within_layout c.requires.memo_ready.1.ready c.requires.node_under, sym c.kind_at.ensures ∙ c.in-Update.is)

pub call_waits-requires : goal.call_waits-requires
call_waits-requires c =
    (ready.scoped_at c.args.code.now.script.within_layout c.requires.memo_ready.1.ready c.requires.node_under, sym c.kind_at.ensures ∙ c.in-Call.is)

pub let_recalled-requires : goal.let_recalled-requires
let_recalled-requires c =
    record { memo_ready = c.requires.memo_ready; node_under = (c.requires.node_under, sym c.kind_at.ensures ∙ c.in-Let.is) }

pub returns-in_default : goal.returns-in_default
returns-in_default c =
    record {
      waits_as = laws.waits_never _ _ _ _ _ c.kind_at.ensures c.in_default.not-Update c.in_default.not-Call c.in_default.not-Let;
      table_unchanged = refl;
      remembers = c.requires.memo_ready.1.remembers;
    }
