use Prim.Native.Nat.{◌≤◌}
use Rattle.values.proofs.StoreLaws.{FieldsLeft}
use Rattle.values.proofs.stores.fields_fit.Given as goal

abbrev pub invariant-loop-j : goal.invariant-loop-j
invariant-loop-j l = (l.j ≤ l.count) × FieldsLeft l.script.bytes.now l.block l.i l.from l.count l.j
