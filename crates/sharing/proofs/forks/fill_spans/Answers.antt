use native.Mathlib.Omega.{arith}
use Rattle.sharing.proofs.LikeLaws.{like_then, ranked_like}
use Rattle.sharing.proofs.SpanLaws.{marks_all}
use Rattle.sharing.proofs.forks.fill_spans.Goals as goal

pub fill_span-requires : goal.fill_span-requires
fill_span-requires c =
    (c.loop-start.invariant.0, (_, ranked_like c.loop-start.invariant.1 c.requires.1), c.loop-start.invariant.2)

pub returns : goal.returns
returns c =
    marks_all _ c.args.script.now.within_layout _ _ _ _ c.loop-start.invariant.1 c.requires.1 c.requires.2 c.loop-start-test.false c.loop-start.invariant.2

-- The last span ends past every rank.
pub returns-2 : goal.returns-2
returns-2 c =
    marks_all _ c.args.script.now.within_layout _ _ _ _ (like_then c.loop-start.invariant.1 c.fill_span.ensures.0) c.requires.1 c.requires.2 (omega arith) c.fill_span.ensures.1
