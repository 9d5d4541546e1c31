use Prim.Native.Nat.{◌+◌}
use mathlib.Core.Path.{refl, sym, ◌∙◌}
use native.Mathlib.Omega.{arith}
use Rattle.tokens.proofs.TokenLaws.{Skips, skips_on, skips_done}
use Rattle.tokens.proofs.source.Text.skip_blanks.Goals as goal

pub returns-then-not-is_blank : goal.returns-then-not-is_blank
returns-then-not-is_blank c =
    skips_done _ _ _ c.loop-i.invariant (λ _. sym c.is_blank.ensures ∙ c.if-not-is_blank.true)

pub returns-then-not-is_blank-2 : goal.returns-then-not-is_blank-2
returns-then-not-is_blank-2 c =
    let one : Skips c.args.self.now.bytes.now c.args.at (c.loop-i.i + 1) = skips_on _ _ _ _ c.loop-i.invariant (omega (arith, c.loop-i-test.true)) (sym c.is_blank.ensures ∙ c.if-not-is_blank.false) refl in
    skips_done _ _ _ (one) (λ _. sym c.is_blank-in-loop-i.ensures ∙ c.if-not-is_blank-2.true)

pub returns-then-not-is_blank-3 : goal.returns-then-not-is_blank-3
returns-then-not-is_blank-3 c =
    let one : Skips c.args.self.now.bytes.now c.args.at (c.loop-i.i + 1) = skips_on _ _ _ _ c.loop-i.invariant (omega (arith, c.loop-i-test.true)) (sym c.is_blank.ensures ∙ c.if-not-is_blank.false) refl in
    let two : Skips c.args.self.now.bytes.now c.args.at (c.loop-i.i + 2) = skips_on _ _ _ _ (one) (omega (arith, c.loop-i-test.true)) (sym c.is_blank-in-loop-i.ensures ∙ c.if-not-is_blank-2.false) (omega arith) in
    skips_done _ _ _ (two) (λ _. sym c.is_blank-in-loop-i-2.ensures ∙ c.if-not-is_blank-3.true)

pub returns-then-not-is_blank-4 : goal.returns-then-not-is_blank-4
returns-then-not-is_blank-4 c =
    let one : Skips c.args.self.now.bytes.now c.args.at (c.loop-i.i + 1) = skips_on _ _ _ _ c.loop-i.invariant (omega (arith, c.loop-i-test.true)) (sym c.is_blank.ensures ∙ c.if-not-is_blank.false) refl in
    let two : Skips c.args.self.now.bytes.now c.args.at (c.loop-i.i + 2) = skips_on _ _ _ _ (one) (omega (arith, c.loop-i-test.true)) (sym c.is_blank-in-loop-i.ensures ∙ c.if-not-is_blank-2.false) (omega arith) in
    let three : Skips c.args.self.now.bytes.now c.args.at (c.loop-i.i + 3) = skips_on _ _ _ _ (two) (omega (arith, c.loop-i-test.true)) (sym c.is_blank-in-loop-i-2.ensures ∙ c.if-not-is_blank-3.false) (omega arith) in
    skips_done _ _ _ (three) (λ _. sym c.is_blank-in-loop-i-3.ensures ∙ c.if-not-is_blank-4.true)

pub loop-i-preserved : goal.loop-i-preserved
loop-i-preserved c =
    let one : Skips c.args.self.now.bytes.now c.args.at (c.loop-i.i + 1) = skips_on _ _ _ _ c.loop-i.invariant (omega (arith, c.loop-i-test.true)) (sym c.is_blank.ensures ∙ c.if-not-is_blank.false) refl in
    let two : Skips c.args.self.now.bytes.now c.args.at (c.loop-i.i + 2) = skips_on _ _ _ _ (one) (omega (arith, c.loop-i-test.true)) (sym c.is_blank-in-loop-i.ensures ∙ c.if-not-is_blank-2.false) (omega arith) in
    let three : Skips c.args.self.now.bytes.now c.args.at (c.loop-i.i + 3) = skips_on _ _ _ _ (two) (omega (arith, c.loop-i-test.true)) (sym c.is_blank-in-loop-i-2.ensures ∙ c.if-not-is_blank-3.false) (omega arith) in
    skips_on _ _ _ _ (three) (omega (arith, c.loop-i-test.true)) (sym c.is_blank-in-loop-i-3.ensures ∙ c.if-not-is_blank-4.false) (omega arith)

pub returns : goal.returns
returns c =
    let last = c.skip_last.ensures in
    let s = c.loop-i.invariant in
    record { same = s.2 ∙ last.same; from = omega (arith, s.0, last.from); within = last.within; blankless = last.blankless }
