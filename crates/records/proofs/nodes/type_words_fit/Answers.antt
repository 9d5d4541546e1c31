use borrow.Author.Rules.{rules}
use Rattle.script.specs.Questions.{type_word_test}
use Rattle.records.proofs.nodes.type_words_fit.Goals as goal

pub returns : goal.returns
returns c =
    c.words_fit.ensures (type_word_test c.args.file.now.bytes.now) (λ role w fit k. search rules)
