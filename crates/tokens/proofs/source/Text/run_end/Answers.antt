use mathlib.Core.Path.{sym, ap, ◌∙◌}
use native.Mathlib.Omega.{arith}
use borrow.Author.Tests.{lt-leb, le-leb}
use lib.Dec.{leb}
use lib.ListN.{length}
use Rattle.tokens.specs.Kinds.{kind_test}
use Rattle.word_kinds.proofs.RunLaws.{run_on, run_stops, run_ends}
use Rattle.tokens.proofs.source.Text.run_end.Goals as goal

pub returns-then-kind_at-least : goal.returns-then-kind_at-least
returns-then-kind_at-least c =
    let text = c.args.self.now.bytes.now in
    omega (arith, ap length (run_stops (kind_test c.args.least) text c.loop-i.i c.loop-i-test.true (ap (leb c.args.least) (sym c.kind_at.ensures) ∙ lt-leb _ _ c.if-kind_at-least.true)))

pub loop-i-preserved : goal.loop-i-preserved
loop-i-preserved c =
    let text = c.args.self.now.bytes.now in
    omega (arith, ap length (run_on (kind_test c.args.least) text c.loop-i.i c.loop-i-test.true (ap (leb c.args.least) (sym c.kind_at.ensures) ∙ le-leb _ _ c.if-kind_at-least.false)))

pub returns : goal.returns
returns c =
    omega (arith, ap length (run_ends (kind_test c.args.least) c.args.self.now.bytes.now c.loop-i.i c.loop-i-test.false))
