use Rattle.machine.specs.Config.{code_of}
use Rattle.values.proofs.StoreLaws as laws
use Rattle.values.proofs.stores.value_fits.Goals as goal

pub returns-in-Null : goal.returns-in-Null
returns-in-Null c =
    rw c.in-Null.is c.null_meets.ensures

pub returns-in-Ref : goal.returns-in-Ref
returns-in-Ref c =
    rw c.in-Ref.is c.object_meets.ensures

pub returns-in-Int : goal.returns-in-Int
returns-in-Int c =
    laws.number_meets (code_of c.args.script.now.bytes.now) _ _ _ _ _ _ c.in-Int.is c.in-Int.known_told-in-Int-1-own.given.0.1 c.int_of.ensures.0 c.meets.ensures
