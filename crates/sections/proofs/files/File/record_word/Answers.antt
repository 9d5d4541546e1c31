use borrow.Author.Rules.{rules}
use Rattle.sections.proofs.CodeLaws.{word_is, word_inside}
use Rattle.sections.proofs.files.File.record_word.Goals as goal

pub word_at-requires : goal.word_at-requires
word_at-requires c =
    (word_inside _ _ _ _ _ c.args.self.now.laid c.requires.0 c.requires.1 c.record_at-at.ensures.0).0

pub returns : goal.returns
returns c =
    (word_is _ _ _ _ _ _ c.record_at-at.ensures.0 c.word_at.ensures, search rules)
