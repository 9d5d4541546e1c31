use Rattle.memo.specs.Memo.{Remembers}
use Rattle.frames.proofs.FrameLaws.{Climbed}
use Rattle.frames.proofs.frames.frames_want.Given as goal

abbrev pub invariant-loop-k : goal.invariant-loop-k
invariant-loop-k l = Climbed l.code.script.bytes.now l.block l.initial.table l.table l.from l.n l.initial.w l.k l.w × Remembers l.code.script.bytes.now l.block l.memo
