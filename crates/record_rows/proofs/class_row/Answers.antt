use Rattle.rows.specs.Rows.{class_row}
use Rattle.token_words.proofs.TokenLaws.{three_are}
use Rattle.record_rows.proofs.class_row.Goals as goal

pub returns : goal.returns
unfolding class_row
returns c es m =
    let o = c.owned-members.ensures es m.roled in
    three_are (c.type_word.ensures es m) o.fields_are o.methods_are
