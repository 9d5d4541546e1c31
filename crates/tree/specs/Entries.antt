-- The thread tree as the code has it: one entry for each position. "a tree position, preorder, root 0, left before right"
use Rattle.std.specs.Prelude.{ℕ, ◌+◌, ◌≤◌, ◌≡◌, List, [], ◌∷◌, map, length, take}
use Rattle.limits.specs.Limits.{POSITIONS}
use Rattle.script.specs.Lists.{Every}
use Rattle.machine.specs.declared.Value.{Value}
use Rattle.machine.specs.declared.Value.TheVariants.{Null as nil}
use Rattle.machine.specs.Config as machine
use Rattle.machine.specs.Config.{running, returning, failed, join}
use Rattle.block.specs.Values.{Storable}
use Rattle.block.specs.Block.{preorder, waiting}
use Rattle.tree.specs.declared.Cell.{Cell}
use Rattle.tree.specs.declared.Cell.TheVariants.{Failed, Running, Returning, Join}
use Rattle.tree.specs.declared.Entry.{Entry}
use Rattle.tree.specs.declared.Tree.{Tree}

-- What stands at a tree's root.
abbrev pub cell_of : machine.Tree → Cell
cell_of (running a e fs) = Running a e
cell_of (returning v fs) = Returning v
cell_of failed = Failed
cell_of (join fs a e l r) = Join a e

-- The entry of a tree's root: its cell, and how many frames wait there.
abbrev pub root_entry : machine.Tree → Entry
root_entry t = record { cell = cell_of t; frames = length (waiting t) }

-- The entries of a tree.
abbrev pub tree_entries : machine.Tree → List Entry
tree_entries t = map root_entry (preorder t)

-- How many trees stand beneath a position: two beneath a join, none beneath a thread.
abbrev pub beneath_cell : Cell → ℕ
beneath_cell Failed = 0
beneath_cell (Running a e) = 0
beneath_cell (Returning v) = 0
beneath_cell (Join a e) = 2

-- How many frames wait at some entries in all.
abbrev pub frame_sum : List Entry → ℕ
frame_sum [] = 0
frame_sum (x ∷ xs) = x.frames + frame_sum xs

-- What a place holds before it is filled, and what is read past the last one.
abbrev pub blank : Entry
blank = record { cell = Failed; frames = 0 }

-- The entries in use.
abbrev pub used : Tree → List Entry
used self = take self.len self.entries

-- There is a place for each position of a tree with the most threads, and the tree's entries stand in them.
pub record Bounded (self : Tree) : Type 0 where
  pub small : self.len ≤ POSITIONS
  pub whole : length self.entries ≡ POSITIONS

-- "All words are unsigned 16-bit": those of the values too. The value of a position is null where it has none.
abbrev pub result_of : Cell → Value
result_of Failed = nil
result_of (Running a e) = nil
result_of (Returning v) = v
result_of (Join a e) = nil

abbrev pub Worded : List Entry → Type 0
Worded es = Every (λ (x : Entry). Storable (result_of x.cell)) es
