use borrow.Author.Rules.{rules}
use Rattle.script.specs.Questions.{interface_test, interfaces_test}
use Rattle.records.proofs.nodes.check_interfaces.Goals as goal

pub returns : goal.returns
unfolding interfaces_test
returns c =
    c.check_each.ensures (interface_test c.args.file.now.bytes.now) (λ i fit h k. search rules)
