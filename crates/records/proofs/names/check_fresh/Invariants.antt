use mathlib.Core.Path.{◌≡◌}
use Prim.Native.Nat.{◌-◌, ◌≤◌}
use Rattle.script.specs.Lists.{sum_below}
use Rattle.script.specs.Section.{count_of}
use Rattle.script.specs.Asking.{first_out_of}
use Rattle.sections.specs.Laid.{own_of, fresh_in}
use Rattle.records.proofs.names.check_fresh.Given as goal

abbrev pub invariant-loop-o : goal.invariant-loop-o
invariant-loop-o l = (l.o ≤ l.n) × (l.start ≡ sum_below (own_of l.file.bytes.now l.k) l.o) × (first_out_of (fresh_in l.file.bytes.now l.k) 0 (count_of l.file.bytes.now l.k) ≡ first_out_of (fresh_in l.file.bytes.now l.k) l.start (count_of l.file.bytes.now l.k - l.start))
