use Rattle.sections.proofs.Search.{seek_end, seek_hit, seek_miss}
use Rattle.sections.proofs.files.File.find_name.Goals as goal

pub returns-then-record_word-x : goal.returns-then-record_word-x
returns-then-record_word-x c =
    seek_hit _ _ _ _ _ _ c.loop-i.invariant _ c.loop-i-test.true c.record_word.ensures.0 c.if-record_word-x.true

pub loop-i-preserved : goal.loop-i-preserved
loop-i-preserved c =
    seek_miss _ _ _ _ _ _ c.loop-i.invariant _ c.loop-i-test.true c.record_word.ensures.0 c.if-record_word-x.false

pub returns : goal.returns
returns c =
    seek_end _ _ _ _ _ _ c.loop-i.invariant c.loop-i-test.false
