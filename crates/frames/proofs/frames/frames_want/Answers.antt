use lib.ListN.{length}
use mathlib.Core.Path.{ap}
use native.Mathlib.Omega.{arith}
use Rattle.frames.proofs.FrameLaws as laws
use Rattle.memo.proofs.MemoLaws.{same_size}
use Rattle.frames.proofs.frames.frames_want.Goals as goal

pub loop-k-init : goal.loop-k-init
loop-k-init c =
    (laws.climb_begun _ _ _ _ _ _, c.requires.memo_ready.1.remembers)

pub overflow_add-from : goal.overflow_add-from
overflow_add-from c =
    omega (arith, laws.frame_place c.requires.memo_ready.1.ready _ (laws.climb_place c.requires.memo_ready.1.ready c.requires.n_bound c.loop-k.invariant.0 (omega arith)))

pub frame_want-requires : goal.frame_want-requires
frame_want-requires c =
    record { memo_ready = (rw c.loop-k.invariant.0.same c.requires.memo_ready.0, record { ready = c.requires.memo_ready.1.ready; remembers = c.loop-k.invariant.1 }); i_bound = laws.climb_place c.requires.memo_ready.1.ready c.requires.n_bound c.loop-k.invariant.0 (omega arith) }

pub returns-in_err-w-clause-value : goal.returns-in_err-w-clause-value
returns-in_err-w-clause-value c =
    rw c.from_residual.ensures (laws.climb_stopped c.requires.memo_ready.1.ready c.requires.n_bound c.loop-k.invariant.0 (omega arith) _ c.frame_want.ensures.value c.in_err-w.was)

pub loop-k-preserved : goal.loop-k-preserved
loop-k-preserved c =
    (laws.climb_more c.requires.memo_ready.1.ready c.requires.n_bound c.loop-k.invariant.0 (omega arith) _ c.frame_want.ensures.value c.frame_want.ensures.table_unchanged _ c.in_ok-w.was, c.frame_want.ensures.remembers)

pub shape_of-table : goal.shape_of-table
shape_of-table c =
    ap length c.loop-k.invariant.0.same

pub shape_of-memo : goal.shape_of-memo
shape_of-memo c =
    same_size c.loop-k.invariant.1 c.requires.memo_ready.1.remembers

pub returns : goal.returns
returns c =
    record { value = laws.climb_done c.requires.memo_ready.1.ready c.requires.n_bound c.loop-k.invariant.0 (omega arith); table_unchanged = c.loop-k.invariant.0.same; remembers = c.loop-k.invariant.1 }
