use native.Mathlib.Omega.{arith}
use Rattle.bounds.proofs.PlaceLaws.{section_below}
use Rattle.bounds.proofs.index.put_place.Goals as goal

pub overflow_add-index : goal.overflow_add-index
overflow_add-index c =
    omega (arith, c.index_of.ensures, c.of.ensures, section_below _ _ c.requires.room)

pub offset_bounds-index-index_of : goal.offset_bounds-index-index_of
offset_bounds-index-index_of c =
    omega (arith, c.index_of.ensures, c.of.ensures, section_below _ _ c.requires.room)

pub bounds-index-index_of : goal.bounds-index-index_of
bounds-index-index_of c =
    omega (arith, c.index_of.ensures, c.of.ensures, section_below _ _ c.requires.room)
