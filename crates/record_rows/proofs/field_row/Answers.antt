use Rattle.rows.specs.Rows.{field_row}
use Rattle.token_words.proofs.TokenLaws.{two_are}
use Rattle.record_rows.proofs.field_row.Goals as goal

pub returns : goal.returns
unfolding field_row
returns c es m =
    two_are (c.value.ensures es m) (c.type_word.ensures es m)
