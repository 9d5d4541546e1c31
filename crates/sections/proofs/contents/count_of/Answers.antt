use borrow.Author.Rules.{rules}
use Rattle.sections.proofs.CodeLaws.{count_is_lem}
use Rattle.sections.proofs.contents.count_of.Goals as goal

pub returns : goal.returns
returns c =
    (count_is_lem _ _ _ _ c.entry_of-e.ensures.0 c.word_at.ensures, search rules)
