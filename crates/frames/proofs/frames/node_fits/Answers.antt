use mathlib.Core.Path.{refl}
use native.Mathlib.Omega.{arith}
use Rattle.awaited.proofs.ReadyLaws as ready
use Rattle.frames.proofs.StepLaws as laws
use Rattle.frames.proofs.frames.node_fits.Goals as goal

pub returns-then-count_of-n : goal.returns-then-count_of-n
returns-then-count_of-n c =
    record { value = laws.node_outside _ _ _ _ c.args.want (omega arith); table_unchanged = refl }

pub returns-then-count-e : goal.returns-then-count-e
returns-then-count-e c =
    record { value = laws.node_unbound _ _ _ _ c.args.want (omega arith); table_unchanged = refl }

pub infer_under-g-requires : goal.infer_under-g-requires
infer_under-g-requires c =
    let w = c.args.code.now.script.within_layout in
    let y = c.requires.1 in
    record { blank = (c.requires.0, omega arith); chain = (ready.chain w y _ (omega arith), ready.typed w y, ready.well w y _) }

pub returns : goal.returns
returns c =
    record { value = laws.node_gives _ _ _ _ c.args.want (omega arith) (omega arith) _ c.infer_under-g.ensures.given_in _ c.given_meets.ensures; table_unchanged = c.infer_under-g.ensures.table_unchanged }
