use Rattle.members.specs.Lookup.{Meanings, join_by}
use Rattle.script.specs.Section.{count_of}
use Rattle.script.specs.declared.Section.TheVariants.{Interfaces as interfaces}
use Prim.Native.Nat.{ℕ, ◌≤◌, ◌<◌}
use mathlib.Core.Bool.{true}
use mathlib.Core.Path.{◌≡◌}
use Rattle.interfaces.proofs.agreement.lowest_join.Given as goal

abbrev pub invariant-loop-i : goal.invariant-loop-i
invariant-loop-i l = (l.i ≤ l.upto) × ((m : ℕ) → Meanings l.script.bytes.now m (count_of l.script.bytes.now interfaces) l.table → (j : ℕ) → j < l.i → join_by l.script.bytes.now m j ≡ true)
