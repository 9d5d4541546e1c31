use Rattle.rows.specs.Rows.{signature_row}
use Rattle.token_words.proofs.TokenLaws.{three_are}
use Rattle.record_rows.proofs.signature_row.Goals as goal

pub returns : goal.returns
unfolding signature_row
returns c es m =
    three_are (c.value.ensures es m) (c.type_word.ensures es m) (c.type_word-2.ensures es m)
