use Rattle.std.proofs.Common.{arith}
use Rattle.numbering.proofs.NumberLaws.{token_with, place_small}
use Rattle.numbering.proofs.number_token.Goals as goal

pub overflow_cast-values : goal.overflow_cast-values
overflow_cast-values g c =
    let pre = c.requires in
    omega (arith, place_small _ c.args.table.now _ _ pre.table_filled.0 c.enter.ensures.place_is, pre.table_filled.1, pre.i_in_bounds.2, c.args.table.now.small)

pub returns : goal.returns
returns g c =
    let pre = c.requires in
    let enter = c.enter.ensures in
    let tokens = c.args.tokens.now in
    token_with _ tokens.text.bytes.now tokens.roles.now tokens.offsets.now _ c.args.table.now c.args.i _ c.enter.new.self pre.i_in_bounds.0 (omega (arith, pre.i_in_bounds.0, tokens.offset_each)) pre.i_value enter.place_is enter.grows enter.count_grows
