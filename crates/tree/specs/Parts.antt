-- What is asked of entries and of the methods of a tree, in terms of its parts. A part is the tree whose root is a position: its entries stand together, from
-- that position on.
use Rattle.std.specs.Prelude.{ℕ, suc, ◌+◌, ◌≤◌, ◌<◌, ◌≡◌, List, [], ◌∷◌, ◌++◌, length, get_or}
use Rattle.machine.specs.declared.Frame.{Frame}
use Rattle.machine.specs.Config as machine
use Rattle.machine.specs.Config.{running, failed, join}
use Rattle.machine.specs.Machine.{size, frame_count}
use Rattle.block.specs.Values.{Storable}
use Rattle.block.specs.Block.{waiting}
use Rattle.representation.specs.Preorder.{splice}
use Rattle.tree.specs.declared.Entry.{Entry}
use Rattle.tree.specs.declared.Tree.{Tree}
use Rattle.tree.specs.Entries.{tree_entries, beneath_cell, blank, used, Bounded, result_of, Worded}

-- The part at position i of the entries es is u, with these entries before it and these after it.
pub record PartAt (es : List Entry) (i : ℕ) (before : List Entry) (u : machine.Tree) (after : List Entry) : Type 0 where
  pub is : es ≡ before ++ (tree_entries u ++ after)
  pub place : length before ≡ i

-- There is a part at position i.
pub record HasPart (es : List Entry) (i : ℕ) : Type 0 where
  pub before : List Entry
  pub part : machine.Tree
  pub after : List Entry
  pub there : PartAt es i before part after

-- The part at position i ends before position r. The bounds hold whatever the entries are.
pub record Ends (es : List Entry) (i r : ℕ) : Type 0 where
  pub some : i < r
  pub inside : r ≤ length es
  pub part : {before after : List Entry} {u : machine.Tree} → PartAt es i before u after → r ≡ i + size u

-- r has the `old` entries from `at` on exchanged for `new`: fork, join and failure are each one such exchange.
pub record Spliced (self : Tree) (at old : ℕ) (new : List Entry) (r : Tree) : Type 0 where
  pub bounded : Bounded r
  pub now : used r ≡ splice (used self) at old new

-- r has the entry x in place of the part at i, whatever that part is.
pub record Replaced (self : Tree) (i : ℕ) (x : Entry) (r : Tree) : Type 0 where
  pub bounded : Bounded r
  pub now : {before after : List Entry} {u : machine.Tree} → PartAt (used self) i before u after → used r ≡ before ++ (x ∷ after)
  pub words : Storable (result_of x.cell) → Worded (used self) → Worded (used r)

-- "A fork becomes a join that keeps its frames, its last part and the bindings for it, which both asyncs also start with"
pub record Forked (self : Tree) (i a b c e : ℕ) (r : Tree) : Type 0 where
  pub bounded : Bounded r
  pub now : {before after : List Entry} {u : machine.Tree} → size u ≡ 1 → PartAt (used self) i before u after
      → PartAt (used r) i before (join (waiting u) c e (running a e []) (running b e [])) after
  pub words : Worded (used self) → Worded (used r)

-- "it becomes failed and all beneath is dropped": also a thread becomes failed so, and keeps no frame.
pub record Failing (self : Tree) (i : ℕ) (r : Tree) : Type 0 where
  pub bounded : Bounded r
  pub now : {before after : List Entry} {u : machine.Tree} → PartAt (used self) i before u after → PartAt (used r) i before failed after
  pub words : Worded (used self) → Worded (used r)

-- "A join with both sides finished goes on as the left thread, at the last part and with the frames kept"
pub record Joined (self : Tree) (i : ℕ) (r : Tree) : Type 0 where
  pub bounded : Bounded r
  pub now : {before after : List Entry} {fs : List Frame} {a e : ℕ} {left right : machine.Tree} → PartAt (used self) i before (join fs a e left right) after
      → PartAt (used r) i before (running a e fs) after
  pub words : Worded (used self) → Worded (used r)

-- How many frames wait in the part at i.
pub record FramesWithin (es : List Entry) (i r : ℕ) : Type 0 where
  pub part : {before after : List Entry} {u : machine.Tree} → PartAt es i before u after → r ≡ frame_count u

-- "(a join's are resumed by its leftmost thread)": the joins of which the thread at i is the leftmost stand just before it, from position r on. Each of these
-- entries is a join, and the one before them is none.
pub record Leftmost (es : List Entry) (i r : ℕ) : Type 0 where
  pub inside : r ≤ i
  pub joins : (k : ℕ) → r ≤ k → k < i → beneath_cell (get_or es k blank).cell ≡ 2
  pub first : (k : ℕ) → r ≡ suc k → beneath_cell (get_or es k blank).cell ≡ 0
