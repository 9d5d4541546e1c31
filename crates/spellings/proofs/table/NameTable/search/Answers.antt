use Rattle.std.proofs.Common.{refl}
use Rattle.spellings.proofs.TableLaws.{look_hit, look_on, look_end}
use Rattle.spellings.proofs.table.NameTable.search.Goals as goal

pub returns-then-is_name : goal.returns-then-is_name
returns-then-is_name g c =
    look_hit _ _ _ _ _ _ c.loop-next.invariant c.loop-next-test.true refl c.is_name.ensures c.if-is_name.true

pub loop-next-preserved : goal.loop-next-preserved
loop-next-preserved g c =
    look_on _ _ _ _ _ _ _ c.requires.table_filled.0 c.loop-next.invariant c.loop-next-test.true refl c.is_name.ensures c.if-is_name.false refl

pub returns : goal.returns
returns g c =
    look_end _ _ _ _ c.loop-next.invariant c.loop-next-test.false
