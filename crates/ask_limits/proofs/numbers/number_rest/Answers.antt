use Rattle.std.proofs.Common.{◌≡◌, arith, rules, ◌∙◌}
use Rattle.spellings.proofs.TableLaws.{none_held}
use Rattle.ask_limits.proofs.Values.{sorts_on}
use Rattle.ask_limits.proofs.numbers.number_rest.Invariants.{sorts}
use Rattle.ask_limits.proofs.numbers.number_rest.Goals as goal

pub number_names-requires : goal.number_names-requires
number_names-requires g c =
    let empty = c.clear.ensures in
    (search (rules, c.loop-sort.table.small), ((omega (arith, c.requires.0, c.loop-sort.auto.values), c.requires.1), (none_held _ c.clear.new.self empty, empty.1)))

pub loop-sort-preserved : goal.loop-sort-preserved
loop-sort-preserved g c =
    sorts_on c.args.linked.now.tokens sorts c.loop-sort.sort-index _ _ _ c.loop-sort-test.true c.number_names.ensures.values_are ∙ c.loop-sort.invariant
