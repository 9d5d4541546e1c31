-- The part that a choice names: where it stands, that it is formed, and what the cell of its position says of it.
use mathlib.Core.Path.{◌≡◌, refl, sym, ap, subst, ◌∙◌}
use mathlib.Core.Option.{some}
use mathlib.Core.List.{List}
use Prim.Native.Nat.{ℕ, ◌<◌}
use native.Mathlib.Omega.{arith}
use Rattle.machine.specs.Config as machine
use Rattle.machine.specs.Config.{running, returning, failed, join, Config}
use Rattle.machine.specs.Machine.{Path}
use Rattle.block.specs.declared.Area.TheVariants.{Positions}
use Rattle.block.specs.Layout.{counted}
use Rattle.block.specs.Block.{waiting}
use Rattle.representation.proofs.Preorder.{named_below, named}
use Rattle.tree.specs.declared.Cell.{Cell}
use Rattle.tree.specs.declared.Cell.TheVariants.{Failed, Running, Returning, Join}
use Rattle.tree.specs.declared.Entry.{Entry}
use Rattle.tree.specs.Entries.{cell_of}
use Rattle.state.specs.Represents.{Represents}
use Rattle.state.specs.Positions.{entry_at}
use Rattle.state.proofs.Seeing.{seen_entry}
use Rattle.state.proofs.Glue.{around, seen_there, positions_many}
use Rattle.moves.specs.Performs.{AtPosition}

pub same_part : {t u : machine.Tree} → some t ≡ some u → t ≡ u
same_part h = cc

-- what the cell at a tree's root says of the tree
pub record JoinOf (a e : ℕ) (u : machine.Tree) : Type 0 where
  pub left : machine.Tree
  pub right : machine.Tree
  pub is : u ≡ join (waiting u) a e left right

abbrev pub RootIs : Cell → machine.Tree → Type 0
RootIs Failed u = u ≡ failed
RootIs (Running a e) u = u ≡ running a e (waiting u)
RootIs (Returning v) u = u ≡ returning v (waiting u)
RootIs (Join a e) u = JoinOf a e u

root_is : (u : machine.Tree) → RootIs (cell_of u) u
root_is (running a e fs) = refl
root_is (returning v fs) = refl
root_is failed = refl
root_is (join fs a e l r) = record { left = l; right = r; is = refl }

-- the part that choice n names
pub record ChosenPart (b : List ℕ) (c : Config) (n : ℕ) : Type 0 where
  pub place : Path
  pub tree : machine.Tree
  pub is : AtPosition b n c place tree (around c n tree)

pub chosen_at : {b : List ℕ} {c : Config} (n : ℕ) → Represents b c → n < counted b Positions → ChosenPart b c n
chosen_at {c = c} n h l =
    let q = (named_below c.tree n).1 (omega (arith, positions_many h)) in
    let y = named c.tree n q.0 q.1 in
    record {
      place = q.0;
      tree = y.tree;
      is = record { represents = h; named = q.1; there = y.there; seen = seen_there c n q.0 y.tree q.1 y.there h };
    }

module _ {b : List ℕ} {c : Config} {n : ℕ} (t : ChosenPart b c n) where
  pub root_told : {k : Cell} → (entry_at b n).cell ≡ k → RootIs k t.tree
  root_told e = subst (λ (k : Cell). RootIs k t.tree) (sym (ap (λ (y : Entry). y.cell) (seen_entry t.is.seen)) ∙ e) (root_is t.tree)

  pub here_told : {u : machine.Tree} → t.tree ≡ u → AtPosition b n c t.place u (around c n t.tree)
  here_told e = subst (λ (u : machine.Tree). AtPosition b n c t.place u (around c n t.tree)) e t.is
