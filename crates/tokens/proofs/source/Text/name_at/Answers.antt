use mathlib.Core.Path.{refl, ap, ◌∙◌}
use native.Mathlib.Omega.{arith}
use lib.ListN.{length}
use Rattle.grammar.specs.Tokens.{word_byte_test}
use Rattle.word_kinds.proofs.RunLaws.{run_on, run_stops, run_ends}
use Rattle.tokens.proofs.KindLaws.{word_in, word_out}
use Rattle.tokens.proofs.NameLaws.{hash_on, hash_done}
use Rattle.tokens.proofs.source.Text.name_at.Goals as goal

pub loop-i-init : goal.loop-i-init
loop-i-init c =
    (omega arith, refl, refl)

pub returns-then-kind_at-lt-NAME : goal.returns-then-kind_at-lt-NAME
returns-then-kind_at-lt-NAME c =
    let loop = c.loop-i.invariant in
    let none = run_stops word_byte_test _ _ c.loop-i-test.true (word_out _ _ c.kind_at.ensures c.if-kind_at-lt-NAME.true) in
    record { hash_is = hash_done _ _ _ loop.1 none; hash_low = loop.0; size_is = omega (arith, loop.2, ap length none) }

pub loop-i-preserved : goal.loop-i-preserved
loop-i-preserved c =
    let loop = c.loop-i.invariant in
    let on = word_in _ _ c.kind_at.ensures c.if-kind_at-lt-NAME.false in (
      omega arith,
      loop.1 ∙ hash_on _ _ _ c.loop-i-test.true on,
      omega (arith, loop.2, ap length (run_on word_byte_test c.args.self.now.bytes.now c.loop-i.i c.loop-i-test.true on)),
    )

pub returns : goal.returns
returns c =
    let loop = c.loop-i.invariant in
    let none = run_ends word_byte_test _ _ c.loop-i-test.false in
    record { hash_is = hash_done _ _ _ loop.1 none; hash_low = loop.0; size_is = omega (arith, loop.2, ap length none) }
