use native.Mathlib.Omega.{arith}
use Rattle.masks.proofs.MaskLaws.{rank_outside, rank_inside}
use Rattle.masks.proofs.masks.bit_of.Goals as goal

pub returns-then-rank-start : goal.returns-then-rank-start
returns-then-rank-start c =
    rank_outside _ _ (λ k h e. omega arith)

pub returns-then-k-ge-SPAN : goal.returns-then-k-ge-SPAN
returns-then-k-ge-SPAN c =
    rank_outside _ _ (λ k h e. omega arith)

pub returns : goal.returns
returns c =
    rank_inside _ _ c.if-rank-start.false c.if-k-ge-SPAN.false
