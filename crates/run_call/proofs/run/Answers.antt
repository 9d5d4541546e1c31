use native.Mathlib.Omega.{arith}
use mathlib.Core.Path.{refl, sym, ◌∙◌}
use Rattle.std.specs.declared.result.Result.TheVariants.{Ok, Err}
use Rattle.check_call.proofs.CheckReplies.{lent}
use Rattle.typing.proofs.Exact.{outside_refused}
use Rattle.run_call.proofs.RunReplies as laws
use Rattle.run_call.proofs.run.Goals as goal

pub verdict_of-requires : goal.verdict_of-requires
verdict_of-requires c =
    lent

pub returns-in-Err : goal.returns-in-Err
returns-in-Err c =
    let told = laws.run_script_refused _ _ _ _ c.from.ensures c.in-Err.ensures.value in record { script = refl; choices = refl; number = told.0; place = told.1.0; stop = told.1.1.0; read = told.1.1.1.0; moves = told.1.1.1.1.0; block = told.1.1.1.1.1 }

pub returns-in_default : goal.returns-in_default
returns-in_default c =
    let told = laws.run_block_refused _ _ _ _ (sym c.in-Ok.ensures.value) _ c.from-in_default.ensures c.in_default.ensures.cases in record { script = refl; choices = refl; number = told.0; place = told.1.0; stop = told.1.1.0; read = told.1.1.1.0; moves = told.1.1.1.1.0; block = told.1.1.1.1.1 }

pub returns-then-choices-gt-CHOICES : goal.returns-then-choices-gt-CHOICES
returns-then-choices-gt-CHOICES c =
    let told = laws.run_choices_refused _ _ _ _ (sym c.in-Ok.ensures.value) (c.as_mut_array.ensures.variant.0 (rw c.in-Some.is refl)) _ c.from-then-choices-gt-CHOICES.ensures c.if-choices-gt-CHOICES.true in record { script = refl; choices = refl; number = told.0; place = told.1.0; stop = told.1.1.0; read = told.1.1.1.0; moves = told.1.1.1.1.0; block = c.in-Some.ensures.cases.same ∙ told.1.1.1.1.1 }

pub run-requires : goal.run-requires
run-requires c =
    let made = c.in-Ok.ensures.tables_filled in record { within_layout = (outside_refused _ _ (sym c.in-Ok.ensures.value), made.0, made.1, sym c.in-Ok.ensures.value); block_len = omega arith }

pub returns-in-Ok-run : goal.returns-in-Ok-run
returns-in-Ok-run c =
    let told = laws.run_part _ _ _ _ (sym c.in-Ok.ensures.value) (c.as_mut_array.ensures.variant.0 (rw c.in-Some.is refl)) _ (Ok c.in-Ok-run.played) c.accepted.ensures (omega arith) c.in-Some.ensures.cases.same c.in-Ok-run.ensures in record { script = refl; choices = refl; number = told.0; place = told.1.0; stop = told.1.1.0; read = told.1.1.1.0; moves = told.1.1.1.1.0; block = told.1.1.1.1.1 }

pub returns-in-Err-run : goal.returns-in-Err-run
returns-in-Err-run c =
    let told = laws.run_part _ _ _ _ (sym c.in-Ok.ensures.value) (c.as_mut_array.ensures.variant.0 (rw c.in-Some.is refl)) _ (Err c.in-Err-run.question) c.from-in-Err-run.ensures (omega arith) c.in-Some.ensures.cases.same c.in-Err-run.ensures in record { script = refl; choices = refl; number = told.0; place = told.1.0; stop = told.1.1.0; read = told.1.1.1.0; moves = told.1.1.1.1.0; block = told.1.1.1.1.1 }
