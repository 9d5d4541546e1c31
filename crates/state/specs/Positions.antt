-- A position as a value against its record in the block; the tree taken out of the block, and positions put in.
use Rattle.std.specs.Prelude.{ℕ, ◌+◌, ◌*◌, ◌≤◌, ◌≡◌, cond, List, map, eqb, get_or, replicate}
use Rattle.script.specs.Lists.{run}
use Rattle.machine.specs.declared.Value.{Value}
use Rattle.machine.specs.Config as machine
use Rattle.machine.specs.Config.{Config}
use Rattle.machine.specs.Machine.{thread_count}
use Rattle.block.specs.declared.Area.TheVariants.{Positions}
use Rattle.block.specs.Layout.{width, counted, word_in, KIND, NODE, ENV, RESULT, WAITING, RUNNING, RETURNING, JOIN}
use Rattle.block.specs.Values.{value_in}
use Rattle.block.specs.Block.{position_words, Parts}
use Rattle.tree.specs.declared.Cell.{Cell}
use Rattle.tree.specs.declared.Cell.TheVariants.{Failed, Running, Returning, Join}
use Rattle.tree.specs.declared.Entry.{Entry}
use Rattle.tree.specs.declared.Tree.{Tree}
use Rattle.tree.specs.Entries.{used, Bounded, Worded}
use Rattle.state.specs.Represents.{Represents}

-- A position read from its words w: what it is, its node, its environment, its value, and how many frames wait there. A kind that is not known is read as
-- failed.
abbrev pub cell_from : ℕ → ℕ → ℕ → Value → Cell
cell_from kind node env value =
    cond (eqb kind RUNNING) (Running node env)
    (cond (eqb kind RETURNING) (Returning value)
    (cond (eqb kind JOIN) (Join node env)
    Failed))

abbrev pub entry_from : (ℕ → ℕ) → Entry
entry_from w = record { cell = cell_from (w KIND) (w NODE) (w ENV) (value_in w RESULT); frames = w WAITING }

-- Position i of the block b, and all that it has.
abbrev pub entry_at : List ℕ → ℕ → Entry
entry_at b i = entry_from (word_in b Positions i)

abbrev pub entries_in : List ℕ → List Entry
entries_in b = run (entry_at b) 0 (counted b Positions)

-- r is the tree that the block b holds, and its values are words.
pub record Taken (b : List ℕ) (r : Tree) : Type 0 where
  pub bounded : Bounded r
  pub same : used r ≡ entries_in b
  pub worded : Worded (used r)

-- The words of record i of the positions ts: zeros where there is no such position. "bytes with no meaning are 0"
abbrev pub row_at : List machine.Tree → ℕ → List ℕ
row_at ts i = get_or (map position_words ts) i (replicate (width Positions) 0)

-- Parts with other positions.
abbrev pub with_positions : Parts → List machine.Tree → Parts
with_positions p ts = record { objects = p.objects; bindings = p.bindings; positions = ts; frames = p.frames }

-- r is how many threads the block has; whatever the block is, r threads have places for all its positions.
pub record ThreadsOf (b : List ℕ) (r : ℕ) : Type 0 where
  pub exact : (c : Config) → Represents b c → r ≡ thread_count c.tree
  pub room : counted b Positions + 1 ≤ 2 * r
