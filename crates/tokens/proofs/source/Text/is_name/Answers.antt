use Prim.Native.Nat.{◌+◌, ◌<◌}
use mathlib.Core.Path.{◌≡◌, sym, ap, ◌∙◌}
use native.Mathlib.Omega.{arith}
use lib.ListN.{length}
use Rattle.grammar.specs.Tokens.{word_byte_test}
use Rattle.word_kinds.proofs.RunLaws.{run_length}
use Rattle.tokens.proofs.NameLaws.{Word, word_there, sizes_differ, same_not, same_on}
use Rattle.tokens.proofs.source.Text.is_name.Goals as goal

pub returns-then-self-a : goal.returns-then-self-a
returns-then-self-a c =
    let text = c.args.self.now.bytes.now in
    sym (sizes_differ _ _ (λ e. omega (arith, c.if-self-a.true, c.requires.size_value, e, run_length word_byte_test text c.args.a c.requires.in_text.0)))

pub bounds-self-at : goal.bounds-self-at
bounds-self-at c =
    (word_there _ (c.args.at + c.loop-i.i) (omega (arith, c.loop-i-test.true, c.loop-i.invariant.0))).inside

pub returns-then-self-a-2 : goal.returns-then-self-a-2
returns-then-self-a-2 c =
    let text = c.args.self.now.bytes.now in
    let word : Word text (c.args.at + c.loop-i.i) = word_there _ _ (omega (arith, c.loop-i-test.true, c.loop-i.invariant.0)) in
    let inside : c.args.a + c.loop-i.i < length text = omega (arith, c.if-self-a.false, c.loop-i-test.true, c.requires.in_text.0) in
    sym (c.loop-i.invariant.1 ∙ same_not text (c.args.a + c.loop-i.i) (c.args.at + c.loop-i.i) inside word c.if-self-a-2.true)

pub loop-i-preserved : goal.loop-i-preserved
loop-i-preserved c =
    let text = c.args.self.now.bytes.now in
    let word : Word text (c.args.at + c.loop-i.i) = word_there _ _ (omega (arith, c.loop-i-test.true, c.loop-i.invariant.0)) in
    let inside : c.args.a + c.loop-i.i < length text = omega (arith, c.if-self-a.false, c.loop-i-test.true, c.requires.in_text.0) in
    let here : c.args.a + (c.loop-i.i + 1) ≡ c.args.a + c.loop-i.i + 1 = omega arith in
    let there : c.args.at + (c.loop-i.i + 1) ≡ c.args.at + c.loop-i.i + 1 = omega arith in
    rw (here, there) (
      omega (arith, c.loop-i.invariant.0, ap length word.goes),
      c.loop-i.invariant.1 ∙ same_on text (c.args.a + c.loop-i.i) (c.args.at + c.loop-i.i) inside word c.if-self-a-2.false,
    )
