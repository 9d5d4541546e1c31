use mathlib.Core.Path.{◌≡◌}
use Prim.Native.Nat.{◌≤◌}
use Rattle.script.specs.declared.Section.TheVariants.{Interfaces as interfaces}
use Rattle.script.specs.Section.{count_of}
use Rattle.subtypes.specs.Tables.{RowsTo}
use Rattle.subtypes.specs.Subtypes.{Rows}
use Rattle.subtypes.proofs.subtyping.fill_rows.Given as goal

abbrev pub invariant-loop-i : goal.invariant-loop-i
invariant-loop-i l = (l.count ≡ count_of l.s interfaces) × (l.i ≤ l.count) × Rows l.s l.rows × RowsTo l.s l.rows l.i
