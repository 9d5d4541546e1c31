use mathlib.Core.Path.{sym, ◌∙◌}
use borrow.Author.Rules.{rules}
use Rattle.turns.proofs.StackLaws.{pushed_one}
use Rattle.turns.proofs.stacks.put_closer.Goals as goal

pub returns-clause-by_index : goal.returns-clause-by_index
returns-clause-by_index c =
    pushed_one _ _ c.args.deed _ c.args.visible c.args.own (sym c.pops.ensures ∙ c.if-pops.false) c.if-deed-lt-PUSH_LET.false c.closer.ensures (search rules)
