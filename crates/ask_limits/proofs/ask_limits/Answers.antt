use Rattle.std.proofs.Common.{arith, rules, refl}
use Rattle.ask_limits.proofs.Between.{limit_refused, limit_within, limits_passed}
use Rattle.ask_limits.proofs.PassLaws.{in_text}
use Rattle.ask_limits.proofs.ask_limits.Goals as goal

pub at_token-requires : goal.at_token-requires
at_token-requires g c =
    limit_within c.requires.declared c.in-Err.ensures.counted_as

pub returns-in-Err : goal.returns-in-Err
returns-in-Err g c =
    let told = c.in-Err.ensures.counted_as in
    limit_refused c.requires.declared c.at_token.result told (limit_within c.requires.declared told) c.at_token.ensures

pub number_rest-requires : goal.number_rest-requires
number_rest-requires g c =
    (search (rules, c.args.table.now.small), c.requires.room)

pub write-requires : goal.write-requires
write-requires g c =
    limits_passed c.requires.declared c.in-Ok.ensures.counted_as c.in-Ok.ensures.index_is c.number_rest.ensures
