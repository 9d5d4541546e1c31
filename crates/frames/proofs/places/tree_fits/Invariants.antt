use mathlib.Core.Path.{◌≡◌}
use Rattle.machine.specs.declared.Want.TheVariants.{Upto as upto}
use Rattle.block.specs.declared.Area.TheVariants.{Positions}
use Rattle.block.specs.Layout.{counted}
use Rattle.memo.specs.Memo.{Remembers}
use Rattle.frames.proofs.TreeLaws.{Passed}
use Rattle.frames.proofs.places.tree_fits.Given as goal

abbrev pub invariant-loop-i : goal.invariant-loop-i
invariant-loop-i l = (l.count ≡ counted l.block Positions) × Passed l.code.script.bytes.now l.block l.initial.table l.table (upto l.t) l.from l.i l.want × Remembers l.code.script.bytes.now l.block l.memo
