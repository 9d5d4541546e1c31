use Prim.Native.Nat.{◌≤◌}
use Rattle.block.specs.declared.Area.TheVariants.{Bindings}
use Rattle.block.specs.Layout.{counted}
use Rattle.values.proofs.BindingLaws.{BindingsLeft}
use Rattle.values.proofs.stores.bindings_fit.Given as goal

abbrev pub invariant-loop-i : goal.invariant-loop-i
invariant-loop-i l = (l.i ≤ counted l.block Bindings) × BindingsLeft l.script.bytes.now l.block l.i
