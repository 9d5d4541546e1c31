-- The words of a position, by its entry.
use mathlib.Core.Path.{◌≡◌, refl}
use mathlib.Core.List.{List, [], ◌∷◌, ◌++◌}
use Prim.Native.Nat.{ℕ}
use Rattle.machine.specs.declared.Value.TheVariants.{Null as nil}
use Rattle.machine.specs.Config as machine
use Rattle.machine.specs.Config.{running, returning, failed, join}
use Rattle.block.specs.Layout.{RUNNING, RETURNING, FAILED, JOIN}
use Rattle.block.specs.Values.{value_words}
use Rattle.block.specs.Block.{position_words}
use Rattle.tree.specs.declared.Cell.{Cell}
use Rattle.tree.specs.declared.Cell.TheVariants.{Failed, Running, Returning, Join}
use Rattle.tree.specs.declared.Entry.{Entry}
use Rattle.tree.specs.Entries.{root_entry}

abbrev pub cell_words : Cell → ℕ → List ℕ
cell_words Failed n = FAILED ∷ 0 ∷ 0 ∷ (value_words nil ++ n ∷ [])
cell_words (Running a e) n = RUNNING ∷ a ∷ e ∷ (value_words nil ++ n ∷ [])
cell_words (Returning v) n = RETURNING ∷ 0 ∷ 0 ∷ (value_words v ++ n ∷ [])
cell_words (Join a e) n = JOIN ∷ a ∷ e ∷ (value_words nil ++ n ∷ [])

abbrev pub entry_words : Entry → List ℕ
entry_words x = cell_words x.cell x.frames

pub words_entry : (t : machine.Tree) → entry_words (root_entry t) ≡ position_words t
words_entry (running a e fs) = refl
words_entry (returning v fs) = refl
words_entry failed = refl
words_entry (join fs a e l r) = refl
