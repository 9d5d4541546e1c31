use mathlib.Core.Path.{refl}
use Rattle.rows.specs.Rows.{method_row}
use Rattle.token_words.proofs.TokenLaws.{four_are}
use Rattle.record_rows.proofs.method_row.Goals as goal

pub returns : goal.returns
unfolding method_row
returns c es m =
    four_are (c.value.ensures es m) (c.type_word.ensures es m) (c.type_word-2.ensures es m) refl
