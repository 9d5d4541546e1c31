use Rattle.std.proofs.Common.{arith}
use Rattle.declarations.proofs.Asking.{type_known}
use Rattle.declarations.proofs.type_token.Goals as goal

pub returns-in-Some : goal.returns-in-Some
returns-in-Some g c =
    let tokens = c.args.tokens.now in
    let pre = c.requires in
    λ names h l.
    type_known _ _ _ _ _ pre.i_in_bounds.0 (omega (arith, pre.i_in_bounds.0, tokens.offset_each)) pre.i_value names _ l c.in-Some.e (c.in-Some.ensures names h l)
