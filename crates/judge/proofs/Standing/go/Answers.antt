use mathlib.Core.Path.{refl}
use Rattle.judge.proofs.AdvanceLaws.{advances_plainly}
use Rattle.judge.proofs.Standing.go.Goals as goal

pub returns : goal.returns
returns c =
    record {
      gone =
          advances_plainly c.args.self c.args.t c.args.e.bits _ _ _ _ c.requires.start_bound.1 c.requires.tokens_in_bounds.2 c.requires.tokens_in_bounds.0
          c.next_point-next.ensures c.role.ensures c.start_after.ensures;
      offsets_after = refl;
    }
