use mathlib.Core.Path.{◌≡◌}
use mathlib.Core.List.{List}
use Prim.Native.Nat.{ℕ, ◌+◌, ◌*◌, ◌≤◌}
use lib.ListN.{length, take}
use lib.Seq.{sets}
use Rattle.words.specs.Word.{bytes}
use Rattle.block.specs.declared.Area.TheVariants.{Positions}
use Rattle.block.specs.Layout.{width, begins}
use Rattle.state.proofs.whole.put_row.Given as goal

abbrev pub invariant-loop-j : goal.invariant-loop-j
invariant-loop-j l = (length l.block ≡ length l.initial.block)
    × (l.j ≤ width Positions)
    × ((ws : List ℕ) → l.initial.block ≡ bytes ws → l.block ≡ bytes (sets ws (begins Positions + width Positions * l.i) (take l.j l.row)))
