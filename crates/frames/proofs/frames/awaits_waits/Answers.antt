use mathlib.Core.Path.{refl}
use native.Mathlib.Omega.{arith}
use Rattle.frames.proofs.StepLaws as laws
use Rattle.frames.proofs.frames.awaits_waits.Goals as goal

pub returns-then-count_of-n : goal.returns-then-count_of-n
returns-then-count_of-n c =
    record { awaits_as = laws.awaits_outside _ _ _ _ (omega arith); table_unchanged = refl; remembers = c.requires.1.remembers }

pub returns-then-count-e : goal.returns-then-count-e
returns-then-count-e c =
    record { awaits_as = laws.awaits_unbound _ _ _ _ (omega arith) (omega arith); table_unchanged = refl; remembers = c.requires.1.remembers }

pub returns : goal.returns
returns c =
    record { awaits_as = laws.awaits_awaited _ _ _ _ (omega arith) (omega arith) c.node_waits.result c.node_waits.ensures.waits_as; table_unchanged = c.node_waits.ensures.table_unchanged; remembers = c.node_waits.ensures.remembers }
