use mathlib.Core.Path.{refl, sym}
use Rattle.std.specs.declared.result.Result.TheVariants.{Ok, Err}
use Rattle.check_call.proofs.CheckReplies.{lent}
use Rattle.typing.proofs.Exact.{outside_refused}
use Rattle.offer_call.proofs.OfferReplies as laws
use Rattle.offer_call.proofs.offer.Goals as goal

pub verdict_of-requires : goal.verdict_of-requires
verdict_of-requires c =
    lent

pub returns-in-Err : goal.returns-in-Err
returns-in-Err c =
    let told = laws.offer_script_refused _ _ _ _ c.from.ensures c.in-Err.ensures.value in record { script = refl; block = laws.offer_block _ _ _; number = told.0; place = told.1.0; flags = told.1.1 }

pub returns-in_default : goal.returns-in_default
returns-in_default c =
    let told = laws.offer_block_refused _ _ _ _ (sym c.in-Ok.ensures.value) _ c.from-in_default.ensures c.in_default.ensures.cases in record { script = refl; block = laws.offer_block _ _ _; number = told.0; place = told.1.0; flags = told.1.1 }

pub returns-then-flags-ne-FLAGS : goal.returns-then-flags-ne-FLAGS
returns-then-flags-ne-FLAGS c =
    let told = laws.offer_flags_refused _ _ _ _ (sym c.in-Ok.ensures.value) (c.as_array.ensures.variant.0 (rw c.in-Some.is refl)) _ c.from-then-flags-ne-FLAGS.ensures c.if-flags-ne-FLAGS.true in record { script = refl; block = laws.offer_block _ _ _; number = told.0; place = told.1.0; flags = told.1.1 }

pub offer-requires : goal.offer-requires
offer-requires c =
    let made = c.in-Ok.ensures.tables_filled in record { within_layout = (outside_refused _ _ (sym c.in-Ok.ensures.value), made.0, made.1, sym c.in-Ok.ensures.value); block_len = c.if-flags-ne-FLAGS.false }

pub returns-in-Ok-offer : goal.returns-in-Ok-offer
returns-in-Ok-offer c =
    let told = laws.offer_part _ _ _ _ (sym c.in-Ok.ensures.value) (c.as_array.ensures.variant.0 (rw c.in-Some.is refl)) (record { number = 0; place = 0 }) (Ok tt) refl c.if-flags-ne-FLAGS.false c.in-Some.ensures.cases.same c.in-Ok-offer.ensures.number c.in-Ok-offer.ensures.flags in record { script = refl; block = laws.offer_block _ _ _; number = told.0; place = told.1.0; flags = told.1.1 }

pub returns-in-Err-offer : goal.returns-in-Err-offer
returns-in-Err-offer c =
    let told = laws.offer_part _ _ _ _ (sym c.in-Ok.ensures.value) (c.as_array.ensures.variant.0 (rw c.in-Some.is refl)) (_) (Err c.in-Err-offer.question) c.from-in-Err-offer.ensures c.if-flags-ne-FLAGS.false c.in-Some.ensures.cases.same c.in-Err-offer.ensures.number c.in-Err-offer.ensures.flags in record { script = refl; block = laws.offer_block _ _ _; number = told.0; place = told.1.0; flags = told.1.1 }
