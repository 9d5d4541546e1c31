use mathlib.Core.Path.{refl}
use borrow.Author.Tests.{not-true}
use Rattle.sharing.proofs.SpanLaws.{marks_none, no_forks}
use mathlib.Core.Path.{ap}
use mathlib.Core.Bool.{not}
use Rattle.sharing.proofs.forks.fill_forks.Goals as goal

pub returns-then-not-has_fork : goal.returns-then-not-has_fork
returns-then-not-has_fork c =
    no_forks _ _ _ c.requires.0 c.requires.1 (c.has_fork.ensures (not-true _ (ap not c.if-not-has_fork.true)))

pub fill_spans-requires : goal.fill_spans-requires
fill_spans-requires c =
    (refl, c.requires.0, c.requires.1, marks_none _ c.args.script.now.within_layout _ c.requires.2)

pub returns : goal.returns
returns c =
    c.fill_spans.ensures
