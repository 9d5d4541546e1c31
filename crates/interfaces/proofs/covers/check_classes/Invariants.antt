use mathlib.Core.Path.{◌≡◌}
use Prim.Native.Nat.{◌-◌}
use Rattle.script.specs.declared.Section.TheVariants.{Classes as classes}
use Rattle.script.specs.Section.{count_of}
use Rattle.script.specs.Asking.{first_out_of}
use Rattle.interfaces.proofs.CoverLaws.{covers_test}
use Rattle.interfaces.proofs.covers.check_classes.Given as goal

abbrev pub invariant-loop-c : goal.invariant-loop-c
invariant-loop-c l = first_out_of (covers_test l.script.bytes.now) 0 (count_of l.script.bytes.now classes) ≡ first_out_of (covers_test l.script.bytes.now) l.c (count_of l.script.bytes.now classes - l.c)
