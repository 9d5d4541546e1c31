use borrow.Author.Rules.{rules}
use Rattle.slices.specs.Put.{put_word}
use Rattle.slices.proofs.put_word.Goals as goal

pub returns : goal.returns
unfolding put_word
returns c =
    search rules
