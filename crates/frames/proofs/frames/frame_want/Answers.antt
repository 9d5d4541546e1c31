use mathlib.Core.Path.{refl}
use Rattle.frames.proofs.FrameLaws as laws
use Rattle.frames.proofs.frames.frame_want.Goals as goal

pub frame-requires : goal.frame-requires
frame-requires c =
    laws.frame_place c.requires.memo_ready.1.ready _ c.requires.i_bound

pub returns-in-Awaits-clause-value : goal.returns-in-Awaits-clause-value
returns-in-Awaits-clause-value c =
    laws.frame_awaits c.requires.memo_ready.1.ready _ c.requires.i_bound _ c.frame.ensures c.args.want c.awaits_waits-w.result _ c.expected.ensures _ _ c.in-Awaits.is c.awaits_waits-w.ensures.awaits_as

pub returns-in-Casts-clause-value : goal.returns-in-Casts-clause-value
returns-in-Casts-clause-value c =
    laws.frame_casts c.requires.memo_ready.1.ready _ c.requires.i_bound _ c.frame.ensures c.args.want c.cast_waits.result _ c.expected-in-Casts.ensures _ c.in-Casts.is c.cast_waits.ensures

pub returns-in-Locks : goal.returns-in-Locks
returns-in-Locks c =
    record { value = laws.frame_locks c.requires.memo_ready.1.ready _ c.requires.i_bound _ c.frame.ensures c.args.want _ c.in-Locks.is; table_unchanged = refl; remembers = c.requires.memo_ready.1.remembers }
