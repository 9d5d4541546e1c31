use borrow.Author.Rules.{rules}
use Rattle.words.specs.Word.{word_at}
use Rattle.slices.proofs.word_at.Goals as goal

pub returns : goal.returns
unfolding word_at
returns c =
    search rules
