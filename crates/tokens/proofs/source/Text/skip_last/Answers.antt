use mathlib.Core.Path.{◌≡◌, refl, sym, ◌∙◌}
use native.Mathlib.Omega.{arith}
use lib.ListN.{length}
use Rattle.tokens.proofs.TokenLaws.{skips_on, skips_done}
use Rattle.tokens.proofs.source.Text.skip_last.Goals as goal

pub returns-then-not-is_blank : goal.returns-then-not-is_blank
returns-then-not-is_blank c =
    skips_done _ _ _ c.loop-i.invariant (λ _. sym c.is_blank.ensures ∙ c.if-not-is_blank.true)

pub loop-i-preserved : goal.loop-i-preserved
loop-i-preserved c =
    skips_on _ _ _ _ c.loop-i.invariant c.loop-i-test.true (sym c.is_blank.ensures ∙ c.if-not-is_blank.false) refl

pub returns : goal.returns
returns c =
    let e : c.loop-i.i ≡ length c.args.self.now.bytes.now = omega arith in
    rw e at (skips_done _ _ _ c.loop-i.invariant (λ h. absurd (omega arith)))
