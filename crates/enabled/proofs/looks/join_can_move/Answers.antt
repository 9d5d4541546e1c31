use mathlib.Core.Logic.{◌⊎◌, ⊎_elim}
use mathlib.Core.Path.{◌≡◌, sym, ap}
use borrow.Author.Rules.{rules}
use Rattle.machine.specs.Machine.{able}
use Rattle.tree.specs.declared.Fold.TheVariants.{Still, GoesOn, Fails}
use Rattle.moves.proofs.Laws.{folds}
use Rattle.enabled.proofs.looks.join_can_move.Goals as goal

pub returns-in-GoesOn : goal.returns-in-GoesOn
returns-in-GoesOn c =
    let how : (c.fold_at.result ≡ GoesOn) ⊎ (c.fold_at.result ≡ Fails) = search (rules, c.in-GoesOn.is) in
    λ rest st fs a e left right s. ⊎_elim (λ k. sym (ap able (folds c.fold_at.ensures k s))) (λ k. sym (ap able (folds c.fold_at.ensures k s))) how

pub returns-in_default : goal.returns-in_default
returns-in_default c =
    let how : c.fold_at.result ≡ Still = cc in
    λ rest st fs a e left right s. sym (ap able (folds c.fold_at.ensures how s))
