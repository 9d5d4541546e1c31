use Rattle.sections.specs.Laid.{other_name}
use Rattle.script.specs.Asking.{first_out_of}
use Prim.Native.Nat.{◌-◌}
use mathlib.Core.Path.{◌≡◌}
use Rattle.sections.proofs.files.File.find_name.Given as goal

abbrev pub invariant-loop-i : goal.invariant-loop-i
invariant-loop-i l = first_out_of (other_name l.self.bytes.now l.k l.x) l.from (l.to - l.from) ≡ first_out_of (other_name l.self.bytes.now l.k l.x) l.i (l.to - l.i)
