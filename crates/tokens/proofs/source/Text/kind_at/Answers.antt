use borrow.Author.Rules.{rules}
use Rattle.tokens.proofs.KindLaws.{kind_there}
use Rattle.tokens.proofs.source.Text.kind_at.Goals as goal

pub returns : goal.returns
returns c =
    kind_there _ _ c.args.self.now.kinds_are (search rules)
