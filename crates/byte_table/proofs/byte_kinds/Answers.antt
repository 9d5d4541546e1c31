use native.Mathlib.Omega.{arith}
use mathlib.Core.Path.{◌≡◌, refl, ◌∙◌}
use Rattle.grammar.specs.Tokens.{fixed_or, fixed_signs, same_spelling}
use Rattle.tokens.specs.Next.{token_kind}
use Rattle.tokens.specs.Kinds.{byte_kind, kinds_from, byte_kinds}
use Rattle.byte_table.proofs.RangeLaws.{ranged_to, ranged_more, ranged_all}
use Rattle.byte_table.proofs.byte_kinds.Goals as goal

pub loop-first-init : goal.loop-first-init
unfolding ranged_to
loop-first-init c =
    refl

pub loop-first-preserved : goal.loop-first-preserved
loop-first-preserved c =
    c.put_range.ensures ∙ ranged_more _ _ _ _ c.loop-first.invariant

pub returns : goal.returns
returns c =
    let e : c.loop-first.first-index ≡ 18 = omega arith in
    ranged_all _ _ _ _ c.loop-first.invariant e (unfold ranged_to byte_kinds kinds_from byte_kind token_kind fixed_or fixed_signs same_spelling in refl)
