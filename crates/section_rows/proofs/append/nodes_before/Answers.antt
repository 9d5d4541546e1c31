use lib.Dec.{ltb}
use Rattle.std.proofs.Common.{rules}
use Rattle.std.proofs.lemmas.List.Sorted.{IsPartitionPoint-from_clause}
use Rattle.script.specs.declared.Section.TheVariants.{Nodes as nodes-section}
use Rattle.section_rows.proofs.PlaceLaws.{parted, parts_are}
use Rattle.section_rows.proofs.append.nodes_before.Goals as goal

pub returns : goal.returns
returns c roles e =
    parts_are nodes-section roles e c.args.i _ c.partition_point.ensures.bound
    (IsPartitionPoint-from_clause (λ y. ltb y c.args.i) _ _ c.partition_point.ensures.partitioned (parted nodes-section roles e c.args.i) (λ a r f k. search rules))
