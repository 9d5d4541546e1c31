use Prim.Native.Nat.{ℕ, ◌<◌, ◌-◌}
use mathlib.Core.Path.{◌≡◌}
use mathlib.Core.Bool.{Bool}
use Rattle.script.specs.Asking.{first_out_of}
use Rattle.script.specs.Section.{count_of}
use Rattle.records.proofs.nodes.check_each.Given as goal

abbrev pub invariant-loop-i : goal.invariant-loop-i
invariant-loop-i g l =
    (test : ℕ → Bool) → ((i : ℕ) (fit : Bool) → i < count_of l.file.bytes.now l.k → goal.F-post g l.fits i fit → fit ≡ test i)
    → first_out_of test 0 (count_of l.file.bytes.now l.k) ≡ first_out_of test l.i (count_of l.file.bytes.now l.k - l.i)
