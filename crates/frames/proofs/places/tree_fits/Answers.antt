use mathlib.Core.Path.{ap, ◌∙◌}
use lib.ListN.{length}
use native.Mathlib.Omega.{arith}
use borrow.Author.Tests.{not-true, not-false}
use Rattle.memo.proofs.MemoLaws.{remembers_nothing}
use Rattle.frames.proofs.PositionLaws.{place_there}
use Rattle.frames.proofs.TreeLaws as laws
use mathlib.Core.Bool.{not}
use Rattle.frames.proofs.places.tree_fits.Goals as goal

pub loop-i-init : goal.loop-i-init
loop-i-init c =
    (c.count-count.ensures.0, laws.pass_begun _ _ _ _, remembers_nothing _ _)

pub position_fits-requires : goal.position_fits-requires
position_fits-requires c =
    record { memo_ready = (rw c.loop-i.invariant.1.same c.requires.0, record { ready = c.requires.1; remembers = c.loop-i.invariant.2 }); i_bound = (omega (arith, c.loop-i.invariant.0), c.loop-i.invariant.1.begins) }

pub shape_of-table-then-not-position_fits : goal.shape_of-table-then-not-position_fits
shape_of-table-then-not-position_fits c =
    ap length (c.position_fits.ensures.table_unchanged ∙ c.loop-i.invariant.1.same)

pub returns-then-not-position_fits : goal.returns-then-not-position_fits
returns-then-not-position_fits c =
    record { value = laws.pass_misfit c.requires.1 c.loop-i.invariant.1 (omega (arith, c.loop-i.invariant.0)) _ c.position_fits.ensures.value (not-true _ (ap not c.if-not-position_fits.true)); table_unchanged = c.position_fits.ensures.table_unchanged ∙ c.loop-i.invariant.1.same }

pub word-requires : goal.word-requires
word-requires c =
    (place_there c.requires.1 _ (omega (arith, c.loop-i.invariant.0)), omega arith)

pub overflow_add-from : goal.overflow_add-from
overflow_add-from c =
    omega (arith, laws.pass_room c.requires.1 c.loop-i.invariant.1 (omega (arith, c.loop-i.invariant.0)) _ c.word.ensures.0)

pub loop-i-preserved : goal.loop-i-preserved
loop-i-preserved c =
    (c.loop-i.invariant.0, laws.pass_more c.requires.1 c.loop-i.invariant.1 (omega (arith, c.loop-i.invariant.0)) _ c.position_fits.ensures.value c.position_fits.ensures.table_unchanged _ c.word.ensures.0 (not-false _ (ap not c.if-not-position_fits.false)), c.position_fits.ensures.remembers)

pub shape_of-table : goal.shape_of-table
shape_of-table c =
    ap length c.loop-i.invariant.1.same

pub returns : goal.returns
returns c =
    record { value = laws.pass_done c.requires.1 c.loop-i.invariant.1 (omega (arith, c.loop-i.invariant.0)); table_unchanged = c.loop-i.invariant.1.same }
