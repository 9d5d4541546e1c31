use lib.ListN.{length-replicate}
use Prim.Native.Nat.{ℕ}
use Rattle.names.specs.Ranks.{RANKS}
use Rattle.checker.proofs.CheckLaws.{node_there, walk_is, new_zeros}
use Rattle.checker.proofs.check.walk_verdict.Goals as goal

pub walk_script-answer-requires : goal.walk_script-answer-requires
walk_script-answer-requires c =
    record { size = length-replicate {A = ℕ} RANKS 0; zeros = new_zeros RANKS }

pub placed-requires : goal.placed-requires
placed-requires c =
    node_there _ _ c.args.script.within_layout c.walk_script-answer.ensures

pub returns-clause-value : goal.returns-clause-value
returns-clause-value c =
    walk_is _ _ _ c.walk_script-answer.ensures c.placed.ensures
