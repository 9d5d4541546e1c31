use native.Mathlib.Omega.{arith}
use mathlib.Core.Path.{sym, ap, ◌∙◌}
use lib.Dec.{eqb}
use mathlib.Core.Bool.{not}
use Rattle.tree.specs.declared.Entry.{Entry}
use Rattle.enabled.proofs.LookLaws.{standing_few, absent_not, failed_not, running_asks, running_there, returning_moves, join_asks, join_moves}
use Rattle.enabled.proofs.looks.can_move.Goals as goal

pub returns-then-count-n : goal.returns-then-count-n
returns-then-count-n c =
    λ x. absent_not x _ (omega arith)

pub entry_at-x-requires : goal.entry_at-x-requires
entry_at-x-requires c =
    omega (arith, standing_few c.requires.1)

pub node_can_move-requires : goal.node_can_move-requires
node_can_move-requires c =
    let x = running_asks c.requires.1 _ (omega arith) c.requires.0 (ap (λ (y : Entry). y.cell) (sym c.entry_at-x.ensures.0) ∙ c.in-Running.is) in
    (c.requires.0, x.0, x.1, x.2)

pub join_can_move-requires : goal.join_can_move-requires
join_can_move-requires c =
    join_asks c.requires.1 _ (omega arith)

pub returns-in-Failed : goal.returns-in-Failed
returns-in-Failed c =
    λ x. failed_not x _ (omega arith) (ap (λ (y : Entry). y.cell) (sym c.entry_at-x.ensures.0) ∙ c.in-Failed.is)

pub returns-in-Running : goal.returns-in-Running
returns-in-Running c =
    λ x. c.node_can_move.ensures x _ _ _ (running_there x _ (omega arith) (ap (λ (y : Entry). y.cell) (sym c.entry_at-x.ensures.0) ∙ c.in-Running.is))

pub returns-in-Returning : goal.returns-in-Returning
returns-in-Returning c =
    λ x. ap (λ (y : Entry). not (eqb y.frames 0)) c.entry_at-x.ensures.0 ∙ returning_moves x _ (omega arith) (ap (λ (y : Entry). y.cell) (sym c.entry_at-x.ensures.0) ∙ c.in-Returning.is)

pub returns-in-Join : goal.returns-in-Join
returns-in-Join c =
    λ x. join_moves x _ (omega arith) (ap (λ (y : Entry). y.cell) (sym c.entry_at-x.ensures.0) ∙ c.in-Join.is) (λ fs left right s. c.join_can_move.ensures _ x.config.stores fs _ _ left right s)
