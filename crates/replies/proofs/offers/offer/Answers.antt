use native.Mathlib.Omega.{arith}
use Rattle.std.proofs.lemmas.Result.{err_from_is_err_and}
use Rattle.replies.proofs.Standing.{blank_table, formed, stands}
use Rattle.replies.proofs.OfferLaws as laws
use Rattle.replies.proofs.offers.offer.Goals as goal

pub well_formed-requires : goal.well_formed-requires
well_formed-requires c =
    blank_table

pub mark-requires : goal.mark-requires
mark-requires c =
    (c.requires.within_layout.0, stands _ (λ i. omega (arith, c.type_inv.s i)) _ c.requires.within_layout.3 _ (formed _ _ _ c.well_formed-2.result c.well_formed-2.ensures.block_value c.in_ok-well_formed.was), c.requires.block_len)

pub returns-in_err-well_formed : goal.returns-in_err-well_formed
returns-in_err-well_formed c =
    let p = err_from_is_err_and c.from_residual.result c.from_residual.ensures.1 in
    let told = laws.left_alone _ _ _ _ c.well_formed-2.result c.well_formed-2.ensures.block_value c.in_err-well_formed.was in
    rw (p.1, p.2) (record { number = told.0; flags = told.1 })

pub returns : goal.returns
returns c =
    let y = c.in_ok-well_formed.was in
    let held = formed _ _ _ c.well_formed-2.result c.well_formed-2.ensures.block_value y in
    let told = laws.offered _ _ _ _ c.well_formed-2.result c.well_formed-2.ensures.block_value y (c.mark.ensures (stands _ (λ i. omega (arith, c.type_inv.s i)) _ c.requires.within_layout.3 _ held)) in record { number = told.0; flags = told.1 }
