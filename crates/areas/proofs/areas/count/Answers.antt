use borrow.Author.Rules.{rules}
use Rattle.areas.proofs.areas.count.Goals as goal

pub returns : goal.returns
returns c =
    (rw (← c.count_word_of-n.ensures.0) c.word_at.ensures, search rules)
