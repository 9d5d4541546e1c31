use native.Mathlib.Omega.{arith}
use Rattle.block.specs.declared.Area.TheVariants.{Positions}
use Rattle.state.proofs.Seeing.{seen_length, seen_few, seen_room}
use Rattle.state.proofs.Folding.{fold_none, left_there, right_there, fold_sides}
use Rattle.state.proofs.reading.fold_at.Goals as goal

pub beneath_at-requires : goal.beneath_at-requires
beneath_at-requires c =
    seen_room c.requires.seen

pub returns-then-beneath_at-eq0 : goal.returns-then-beneath_at-eq0
returns-then-beneath_at-eq0 c =
    fold_none c.requires _ c.beneath_at.ensures.0 c.if-beneath_at-eq0.true

pub overflow_add-left : goal.overflow_add-left
overflow_add-left c =
    omega (arith, seen_room c.requires.seen)

pub part_end-right-requires : goal.part_end-right-requires
part_end-right-requires c =
    (seen_few c.requires.seen Positions, left_there c.requires _ c.beneath_at.ensures.0 c.if-beneath_at-eq0.false)

pub entry_at-x-requires : goal.entry_at-x-requires
entry_at-x-requires c =
    omega (arith, seen_few c.requires.seen Positions, left_there c.requires _ c.beneath_at.ensures.0 c.if-beneath_at-eq0.false)

pub entry_at-y-requires : goal.entry_at-y-requires
entry_at-y-requires c =
    omega (arith, seen_few c.requires.seen Positions, right_there c.requires _ c.beneath_at.ensures.0 c.if-beneath_at-eq0.false c.part_end-right.ensures)

pub returns : goal.returns
returns c =
    fold_sides c.requires _ c.beneath_at.ensures.0 c.if-beneath_at-eq0.false _ _ _ c.phase_of.result c.phase_of-2.result _ c.part_end-right.ensures c.entry_at-x.ensures.0 c.entry_at-y.ensures.0 c.phase_of.ensures
    c.phase_of-2.ensures c.fold_by.ensures
