use Rattle.in_order.proofs.ZeroLaws as laws
use Rattle.in_order.proofs.blanks.zeros.Goals as goal

pub returns-then-to-from : goal.returns-then-to-from
returns-then-to-from c =
    laws.none_asked _ _ _ c.if-to-from.true

pub returns : goal.returns
returns c =
    let s = c.args in laws.bytes_asked s.block.now s.from s.to c.all_zero.ensures.0 c.all_zero.ensures.1
