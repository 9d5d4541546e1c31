use Rattle.records.proofs.UseLaws.{use_past, use_full, use_more}
use Rattle.records.proofs.nodes.count_use.Goals as goal

pub returns-then-i-ge-NODES : goal.returns-then-i-ge-NODES
returns-then-i-ge-NODES c =
    use_past _ _ c.if-i-ge-NODES.true

pub returns-then-n-ge2 : goal.returns-then-n-ge2
returns-then-n-ge2 c =
    use_full _ _ c.if-n-ge2.true

pub returns : goal.returns
returns c =
    use_more _ _ c.if-i-ge-NODES.false c.if-n-ge2.false
