use mathlib.Core.Path.{refl}
use Rattle.judge.proofs.AdvanceLaws.{ended_no, ended_deep, ended_yes}
use Rattle.judge.proofs.Standing.ended.Goals as goal
use Rattle.judge.proofs.Standing.ended.Goals.{then-m-ne-CLOSE-via-then-m-ne-CLOSE, then-m-ne-CLOSE-via-else-m-ne-CLOSE+then-self-ne0}

pub returns-then-m-ne-CLOSE : goal.returns-then-m-ne-CLOSE
returns-then-m-ne-CLOSE c =
    elim c.then-m-ne-CLOSE.branch [
      | then-m-ne-CLOSE-via-then-m-ne-CLOSE w ↦ (ended_no c.args.self _ c.turn_at-m.ensures w.if-m-ne-CLOSE.true, refl)
      | then-m-ne-CLOSE-via-else-m-ne-CLOSE+then-self-ne0 w ↦
          (ended_deep c.args.self _ c.turn_at-m.ensures w.if-m-ne-CLOSE.false w.if-self-ne0.true, refl)
    ]

pub returns : goal.returns
returns c =
    (ended_yes c.args.self _ c.turn_at-m.ensures c.if-m-ne-CLOSE.false c.if-self-ne0.false, refl, refl)
