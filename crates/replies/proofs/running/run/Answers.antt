use native.Mathlib.Omega.{arith}
use Rattle.std.proofs.lemmas.Result.{err_from_is_err_and}
use Rattle.replies.proofs.Standing.{blank_table}
use Rattle.replies.proofs.RunBlockLaws as laws
use Rattle.replies.proofs.running.run.Goals as goal

pub well_formed-requires : goal.well_formed-requires
well_formed-requires c =
    blank_table

pub run_formed-requires : goal.run_formed-requires
run_formed-requires c =
    (rw c.well_formed-2.ensures.table_unchanged blank_table, laws.playable _ _ _ c.well_formed-2.result c.well_formed-2.ensures.block_value c.requires.within_layout.0 (λ i. omega (arith, c.type_inv.s i)) c.requires.within_layout.3 c.in_ok-well_formed.was, c.requires.block_len)

pub returns-in_err-well_formed : goal.returns-in_err-well_formed
returns-in_err-well_formed c =
    let p = err_from_is_err_and c.from_residual.result c.from_residual.ensures.1 in
    rw (p.1, p.2) (laws.result_not _ _ _ c.well_formed-2.result c.well_formed-2.ensures.block_value _ c.in_err-well_formed.was)

pub returns : goal.returns
returns c =
    laws.plays _ _ _ c.well_formed-2.result c.well_formed-2.ensures.block_value _ c.requires.within_layout.0 (λ i. omega (arith, c.type_inv.s i)) c.requires.within_layout.3 c.in_ok-well_formed.was c.run_formed.ensures
