use mathlib.Core.Path.{refl}
use Rattle.turns.specs.Stacks.{top_number}
use Rattle.judge.proofs.AdvanceLaws.{advances}
use Rattle.judge.proofs.Standing.advance.Goals as goal

pub returns : goal.returns
returns c =
    record {
      advanced =
          advances _ c.args.self c.args.t c.args.m (top_number c.args.top) _ _ c.is_own-own.result _ _ _ _ _ _ c.requires.tokens_in_bounds.3
          c.is_own-own.ensures c.put_role.ensures c.put_closer.ensures.upper_bound c.put_closer.ensures.by_index c.parameter_after.ensures
          c.visible_after.ensures c.start_after.ensures;
      offsets_after = refl;
    }
