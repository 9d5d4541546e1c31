use borrow.Author.Rules.{rules}
use Rattle.sections.proofs.CodeLaws.{body_is}
use Rattle.sections.proofs.contents.body_at.Goals as goal

pub returns : goal.returns
returns c =
    (body_is _ _ _ _ c.entry_of-e.ensures.0 c.word_at.ensures, search rules)
