use Rattle.std.proofs.Common.{length}
use Rattle.numbering.specs.Chains.{HeadsFrom}
use Rattle.numbering.proofs.link_names.Given as goal

abbrev pub invariant-loop-i : goal.invariant-loop-i
invariant-loop-i l = HeadsFrom l.roles l.i (length l.roles) l.chain l.heads.by_sort
