use borrow.Author.Rules.{rules}
use Rattle.areas.proofs.areas.word.Goals as goal

pub returns : goal.returns
returns c =
    (rw (← c.word_byte-at.ensures.0) c.word_at.ensures, search rules)
