use native.Mathlib.Omega.{arith}
use mathlib.Core.Path.{refl}
use Rattle.moves.proofs.Positions.{chosen_at}
use Rattle.moves.proofs.Ready.{own_fields_lem}
use Rattle.choices.proofs.ChoiceLaws as laws
use Rattle.choices.proofs.choices.choose.Goals as goal

pub returns-then-count-n : goal.returns-then-count-n
returns-then-count-n c =
    record { performs_choice = λ c₀ w h f. laws.choice_absent _ c₀ _ h (rw c.count.ensures.0 at c.if-count-n.true); table_unchanged = refl }

pub entry_at-requires : goal.entry_at-requires
entry_at-requires c =
    laws.ready_room c.requires (omega (arith, c.count.ensures.0))

pub run_node-requires : goal.run_node-requires
run_node-requires c =
    let at = laws.ready_running c.requires (omega (arith, c.count.ensures.0)) c.args.code.now.script.within_layout _ _ (laws.cell_told c.entry_at.ensures.0 c.in-Running.is) in record { there = (at.0, laws.ready_sight c.requires (omega (arith, c.count.ensures.0))); chain = (at.1, at.2) }

pub resume-requires : goal.resume-requires
resume-requires c =
    (c.requires.blank, laws.ready_returning c.requires (omega (arith, c.count.ensures.0)) _ (laws.cell_told c.entry_at.ensures.0 c.in-Returning.is))

pub fold_join-requires : goal.fold_join-requires
fold_join-requires c =
    laws.ready_sight c.requires (omega (arith, c.count.ensures.0))

pub returns-in-Failed : goal.returns-in-Failed
returns-in-Failed c =
    record { performs_choice = λ c₀ w h f. laws.choice_failed (chosen_at _ h (omega (arith, c.count.ensures.0))) _ (laws.cell_told c.entry_at.ensures.0 c.in-Failed.is); table_unchanged = refl }

pub returns-in-Running : goal.returns-in-Running
returns-in-Running c =
    record { performs_choice = λ c₀ w h f. laws.choice_running (chosen_at _ h (omega (arith, c.count.ensures.0))) _ _ _ (laws.cell_told c.entry_at.ensures.0 c.in-Running.is) (λ p x fs k. c.run_node.ensures c₀ p x fs (own_fields_lem f.stores) k); table_unchanged = refl }

pub returns-in-Returning : goal.returns-in-Returning
returns-in-Returning c =
    record { performs_choice = λ c₀ w h f. laws.choice_returning (chosen_at _ h (omega (arith, c.count.ensures.0))) _ _ (laws.cell_told c.entry_at.ensures.0 c.in-Returning.is) (λ p x fs k. c.resume.ensures.performs c₀ p x fs (own_fields_lem f.stores) k); table_unchanged = c.resume.ensures.table_unchanged }

pub returns-in-Join : goal.returns-in-Join
returns-in-Join c =
    record { performs_choice = λ c₀ w h f. laws.choice_join (chosen_at _ h (omega (arith, c.count.ensures.0))) _ _ _ (laws.cell_told c.entry_at.ensures.0 c.in-Join.is) (λ x fs a e l q k. c.fold_join.ensures x c₀.stores fs a e l q k); table_unchanged = refl }
