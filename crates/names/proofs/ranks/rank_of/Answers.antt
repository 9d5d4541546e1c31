use native.Mathlib.Omega.{arith}
use Rattle.script.specs.declared.Section.TheVariants.{Nodes as nodes}
use Rattle.names.proofs.SearchLaws.{rank_small, rank_none, rank_found, rank_at}
use Rattle.names.proofs.ranks.rank_of.Goals as goal

pub returns-then-x-lt2 : goal.returns-then-x-lt2
returns-then-x-lt2 c =
    rank_small _ _ c.requires.1 _ c.if-x-lt2.true

pub returns-in_err-k : goal.returns-in_err-k
returns-in_err-k c =
    rw c.from_residual.ensures (rank_none _ _ c.requires.1 _ c.if-x-lt2.false (rw c.in_err-k.was at c.find_slot.ensures))

pub offset_bounds-facts-k : goal.offset_bounds-facts-k
offset_bounds-facts-k c =
    let slot = rank_found _ _ c.requires.1 _ _ (rw c.in_ok-k.was at c.find_slot.ensures) in
    omega (arith, slot.there, c.requires.0.counts_are.within nodes)

pub bounds-facts-k : goal.bounds-facts-k
bounds-facts-k c =
    let slot = rank_found _ _ c.requires.1 _ _ (rw c.in_ok-k.was at c.find_slot.ensures) in
    omega (arith, slot.there, c.requires.0.counts_are.within nodes, c.requires.1.ranked.size)

pub returns : goal.returns
returns c =
    rank_at _ _ c.requires.1 _ _ (rw c.in_ok-k.was at c.find_slot.ensures)
