use mathlib.Core.Path.{ap}
use native.Mathlib.Omega.{arith}
use lib.ListN.{length}
use Rattle.token_words.proofs.TokenLaws.{items_shown}
use Rattle.row_bytes.proofs.OutputLaws.{extended_as}
use Rattle.section_rows.proofs.append.append_row.Goals as goal

pub append-requires : goal.append-requires
append-requires c =
    let t = c.args.items.now in
    omega (arith, c.requires.fits, ap length (c.row_at.ensures _ (items_shown _ _ _ _ t.tokens.offset_each t.value_each) c.requires.sizes_value))

pub returns : goal.returns
returns c =
    let t = c.args.items.now in
    extended_as (c.row_at.ensures _ (items_shown _ _ _ _ t.tokens.offset_each t.value_each) c.requires.sizes_value) c.append.ensures
