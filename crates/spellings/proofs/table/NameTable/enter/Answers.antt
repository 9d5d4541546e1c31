use Rattle.std.proofs.Common.{refl}
use Rattle.spellings.proofs.TableLaws.{known_grows, known_count, new_grows, new_count}
use Rattle.spellings.proofs.table.NameTable.enter.Goals as goal

pub returns-in-Some-clause-grows : goal.returns-in-Some-clause-grows
returns-in-Some-clause-grows g c =
    known_grows _ c.args.self.now _ c.in-Some.e c.in-Some.ensures

pub returns-in-Some-clause-count_grows : goal.returns-in-Some-clause-count_grows
returns-in-Some-clause-count_grows g c =
    known_count c.args.text.now.bytes.now c.args.self.now _ c.in-Some.e c.in-Some.ensures

pub returns-clause-grows : goal.returns-clause-grows
returns-clause-grows g c =
    let pre = c.requires in
    let name = c.name_at-name.ensures in
    let kept = c.add.ensures in
    new_grows _ c.args.self.now _ _ _ c.add.new.self c.in_default.ensures refl pre.count_in_bounds pre.table_filled.1 name.hash_is name.hash_low kept.firsts_after kept.links_after kept.heads_after

pub returns-clause-count_grows : goal.returns-clause-count_grows
returns-clause-count_grows g c =
    new_count c.args.text.now.bytes.now c.args.self.now _ c.add.new.self c.in_default.ensures c.add.ensures.count_after
