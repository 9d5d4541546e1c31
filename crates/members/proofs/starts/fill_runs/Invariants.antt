use mathlib.Core.Path.{◌≡◌}
use Prim.Native.Nat.{◌≤◌}
use lib.ListN.{length}
use Rattle.script.specs.Lists.{sum_below}
use Rattle.script.specs.Section.{count_of}
use Rattle.sections.specs.Laid.{owner_of, own_of}
use Rattle.members.specs.Lookup.{RunsTo}
use Rattle.members.proofs.starts.fill_runs.Given as goal

abbrev pub invariant-loop-o : goal.invariant-loop-o
invariant-loop-o l = (l.owners ≡ count_of l.s (owner_of l.k)) × (l.o ≤ l.owners) × (length l.starts ≡ length l.initial.starts) × (l.sum ≡ sum_below (own_of l.s l.k) l.o) × RunsTo l.s l.k l.base l.o l.initial.starts l.starts
