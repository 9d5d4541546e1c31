use mathlib.Core.Path.{◌≡◌}
use Prim.Native.Nat.{◌-◌, ◌≤◌}
use Rattle.script.specs.Asking.{first_out_of}
use Rattle.sections.specs.Laid.{name_of, new_in}
use Rattle.records.proofs.names.repeated_in.Given as goal

abbrev pub invariant-loop-i : goal.invariant-loop-i
invariant-loop-i l = (l.start ≤ l.i) × (l.i ≤ l.end) × (first_out_of (new_in (name_of l.file.bytes.now l.k) l.start) l.start (l.end - l.start) ≡ first_out_of (new_in (name_of l.file.bytes.now l.k) l.start) l.i (l.end - l.i))
