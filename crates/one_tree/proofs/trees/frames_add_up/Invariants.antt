use Prim.Native.Nat.{◌-◌, ◌*◌, ◌≤◌}
use mathlib.Core.Path.{◌≡◌}
use Rattle.script.specs.Lists.{sum_below}
use Rattle.block.specs.declared.Area.TheVariants.{Positions}
use Rattle.block.specs.Layout.{word_in, WAITING}
use Rattle.one_tree.proofs.trees.frames_add_up.Given as goal

abbrev pub invariant-loop-i : goal.invariant-loop-i
invariant-loop-i l = (l.i ≤ l.n) × (l.sum ≡ sum_below (λ k. word_in l.block Positions k WAITING) l.i) × (l.sum ≤ 65536 * l.i)
