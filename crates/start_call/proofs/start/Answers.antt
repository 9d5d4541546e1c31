use mathlib.Core.Path.{refl}
use Rattle.start_call.proofs.StartReplies.{script_refused, block_refused, started}
use Rattle.start_call.proofs.start.Goals as goal

pub returns-in-Err : goal.returns-in-Err
returns-in-Err c =
    let told = script_refused _ c.args.block.now _ c.from.ensures c.in-Err.ensures in record { script = refl; number = told.0; place = told.1.0; block = told.1.1 }

pub returns-in_default-as_mut_array : goal.returns-in_default-as_mut_array
returns-in_default-as_mut_array c =
    let told = block_refused _ c.args.block.now _ c.in_default.ensures _ c.from-in_default-as_mut_array.ensures c.in_default-as_mut_array.ensures.cases in record { script = refl; number = told.0; place = told.1.0; block = told.1.1 }

pub returns : goal.returns
returns c =
    let told = started _ c.args.block.now _ c.in_default.ensures (c.as_mut_array.ensures.variant.0 (rw c.in-Some.is refl)) c.write_initial.ensures in record { script = refl; number = told.0; place = told.1.0; block = told.1.1 }
