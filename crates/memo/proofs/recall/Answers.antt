use borrow.Author.Tests.{not-false}
use Rattle.memo.proofs.MemoLaws as laws
use mathlib.Core.Path.{ap}
use mathlib.Core.Bool.{not}
use Rattle.memo.proofs.recall.Goals as goal

pub returns-then-word-eq0 : goal.returns-then-word-eq0
returns-then-word-eq0 c =
    laws.recalls_nothing _ _ _ _

pub same_scope-requires : goal.same_scope-requires
same_scope-requires c =
    (laws.kept_chain c.args.n c.requires.0 c.requires.1 c.if-word-eq0.false, c.requires.0)

pub returns-then-not-same_scope : goal.returns-then-not-same_scope
returns-then-not-same_scope c =
    laws.recalls_nothing _ _ _ _

pub returns-then-given-eq0 : goal.returns-then-given-eq0
returns-then-given-eq0 c =
    laws.recalls_null c.args.block.now c.args.memo.now c.args.n c.args.e c.if-word-eq0.false (c.same_scope.ensures (not-false _ (ap not c.if-not-same_scope.false))) c.if-given-eq0.true

pub returns : goal.returns
returns c =
    laws.recalls_entry c.args.block.now c.args.memo.now c.args.n c.args.e c.if-word-eq0.false (c.same_scope.ensures (not-false _ (ap not c.if-not-same_scope.false))) c.if-given-eq0.false
