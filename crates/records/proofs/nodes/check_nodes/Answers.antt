use borrow.Author.Rules.{rules}
use Rattle.std.proofs.lemmas.Result.{err_from_is_err_and}
use Rattle.script.specs.declared.Section.TheVariants.{Methods as methods, Nodes as nodes}
use Rattle.script.specs.Section.{count_of, record_word}
use lib.Dec.{ltb}
use Rattle.script.specs.Questions.{nodes_test, node_test}
use Rattle.sections.proofs.Search.{lowest_found, lowest_later}
use Rattle.records.proofs.UseLaws.{table_empty}
use Rattle.records.proofs.nodes.check_nodes.Goals as goal

pub fill_uses-requires : goal.fill_uses-requires
fill_uses-requires c =
    table_empty

pub returns-in_err-check_each : goal.returns-in_err-check_each
unfolding nodes_test
returns-in_err-check_each c =
    let s = c.args.file.now.bytes.now in
    let p = err_from_is_err_and c.from_residual.result c.from_residual.ensures.1 in
    rw (p.1, p.2)
    (lowest_found _ _ _ _ _ (c.check_each.ensures (λ i. ltb (record_word s methods i 3) (count_of s nodes)) (λ i fit h k. search rules)) _ c.in_err-check_each.was)

pub returns : goal.returns
unfolding nodes_test
returns c =
    let s = c.args.file.now.bytes.now in
    lowest_later _ _ _ _ _ (c.check_each.ensures (λ i. ltb (record_word s methods i 3) (count_of s nodes)) (λ i fit h k. search rules)) _ c.in_ok-check_each.was
    (c.check_each-2.ensures (node_test s) (λ i fit h k. search rules))
