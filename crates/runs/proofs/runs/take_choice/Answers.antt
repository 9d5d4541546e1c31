use native.Mathlib.Omega.{arith}
use Rattle.runs.proofs.RunLaws as laws
use Rattle.runs.proofs.runs.take_choice.Goals as goal

pub look-requires : goal.look-requires
look-requires c =
    (c.args.code.now.script.within_layout, laws.moved_standing c.requires.1 _ (laws.did_as c.requires.1 _ c.choose.ensures.performs_choice) c.in-Moved.is)

pub returns-in-Still : goal.returns-in-Still
returns-in-Still c =
    (record { taken_as = λ x on. laws.took_still x _ (laws.did_as x _ c.choose.ensures.performs_choice) on c.in-Still.is; table_unchanged = (c.choose.ensures.table_unchanged, omega arith) })

pub returns-in-Moved : goal.returns-in-Moved
returns-in-Moved c =
    record { taken_as = λ x on. laws.took_moved x _ (laws.did_as x _ c.choose.ensures.performs_choice) on c.in-Moved.is _ _ (c.look.ensures (laws.moved_standing x _ (laws.did_as x _ c.choose.ensures.performs_choice) c.in-Moved.is)) c.map.ensures.cases; table_unchanged = (c.choose.ensures.table_unchanged, omega arith) }

pub returns-in-Full : goal.returns-in-Full
returns-in-Full c =
    (record { taken_as = λ x on. laws.took_full x _ (laws.did_as x _ c.choose.ensures.performs_choice) _ on c.in-Full.is; table_unchanged = (c.choose.ensures.table_unchanged, omega arith) })
