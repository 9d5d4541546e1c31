-- The move of a join, by what its position and those of its sides say.
use mathlib.Core.Path.{◌≡◌, sym, ap, ◌∙◌}
use mathlib.Core.Logic.{◌≢◌}
use mathlib.Core.List.{List}
use Prim.Native.Nat.{ℕ, ◌+◌, ◌<◌}
use native.Mathlib.Omega.{arith}
use lib.ListN.{get_or}
use Rattle.block.specs.declared.Area.TheVariants.{Positions}
use Rattle.block.specs.Layout.{counted}
use Rattle.tree.specs.declared.Entry.{Entry}
use Rattle.tree.specs.declared.Phase.{Phase}
use Rattle.tree.specs.declared.Fold.{Fold}
use Rattle.tree.specs.declared.Fold.TheVariants.{Still}
use Rattle.tree.specs.Entries.{beneath_cell, blank}
use Rattle.tree.specs.Parts.{Ends}
use Rattle.tree.specs.Phases.{PhaseIs, FoldIs, FoldAt}
use Rattle.tree.proofs.Folds.{fold_thread, left_inside, right_inside, fold_join}
use Rattle.state.specs.Represents.{SomeState}
use Rattle.state.specs.Positions.{entry_at, entries_in}
use Rattle.state.proofs.Taking.{entries_many, entry_there}
use Rattle.state.proofs.Seeing.{seen_inside, stands}

module _ {b : List ℕ} {i : ℕ} (s : SomeState b i) (n : ℕ) (e : n ≡ beneath_cell (entry_at b i).cell) where
  beneath_there : n ≡ beneath_cell (get_or (entries_in b) i blank).cell
  beneath_there = e ∙ ap (λ (x : Entry). beneath_cell x.cell) (sym (entry_there b i (seen_inside s.seen)))

  pub fold_none : n ≡ 0 → FoldAt (entries_in b) i Still
  fold_none z = fold_thread (entries_in b) i n beneath_there z

  module _ (some : n ≢ 0) where
    pub left_there : i + 1 < counted b Positions
    left_there = omega (arith, left_inside (entries_in b) i (stands s) n beneath_there some, entries_many b)

    pub right_there : {right : ℕ} → Ends (entries_in b) (i + 1) right → right < counted b Positions
    right_there h = omega (arith, right_inside (entries_in b) i (stands s) n beneath_there some h, entries_many b)

    pub fold_sides : (right : ℕ) (x y : Entry) (p q : Phase) (r : Fold) → Ends (entries_in b) (i + 1) right → x ≡ entry_at b (i + 1) → y ≡ entry_at b right → PhaseIs x p → PhaseIs y q → FoldIs p q r
        → FoldAt (entries_in b) i r
    fold_sides right x y p q r h ex ey px py f =
        fold_join (entries_in b) i (stands s) n beneath_there some right p q r h
        (λ u k. px u (ex ∙ sym (entry_there b (i + 1) left_there) ∙ k))
        (λ u k. py u (ey ∙ sym (entry_there b right (right_there h)) ∙ k))
        f
